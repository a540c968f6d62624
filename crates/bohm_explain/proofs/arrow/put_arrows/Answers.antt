use Rattle.std.proofs.Common.{◌≡◌, ◌+◌, ◌-◌, length, drop, ap, arith}
use Rattle.std.proofs.lemmas.List.{length_push}
use Rattle.bohm_txn.proofs.ForCallers.{drop_at}
use Rattle.bohm_explain.proofs.Usable.{few_keys}
use Rattle.bohm_explain.proofs.Sources.{right_source, paired, behind_first, one_arrow, no_arrow}
use Rattle.bohm_explain.proofs.arrow.put_arrows.Goals.{in-Before, in-Within+in_ok-push-in-Within}
use Rattle.bohm_explain.proofs.arrow.put_arrows.Goals as goal
use Rattle.bohm_place.proofs.ForCallers.{usable_at}

pub overflow_cast-index : goal.overflow_cast-index
overflow_cast-index c =
    let few = few_keys c.args.set c.txn.result (usable_at c.args.txns.now c.requires.formed c.args.to c.txn.result c.txn.ensures) in
    omega (arith, ap length c.keys-keys.ensures)

pub access-access-requires-clause-index : goal.access-access-requires-clause-index
access-access-requires-clause-index c =
    let place : c.first-first.result + c.args.to - c.args.plan.now.first ≡ c.args.to = omega (arith, c.first-first.ensures) in
    rw place (omega (
      arith,
      paired c.args.txns.now c.args.plan.now c.args.set c.args.to c.txn.result c.requires.right c.txn.ensures,
      ap length c.keys-keys.ensures,
    ))

pub overflow_sub-from : goal.overflow_sub-from
overflow_sub-from c =
    let place : c.first-first.result + c.args.to - c.args.plan.now.first ≡ c.args.to = omega (arith, c.first-first.ensures) in
    let newest = right_source c.args.txns.now c.args.plan.now c.args.set c.args.to c.loop-index.index c.txn.result c.key-key.result.now c.access-access.result
    c.requires.right c.txn.ensures (rw c.keys-keys.ensures at c.key-key.ensures) (rw place at c.access-access.ensures) in
    let behind = behind_first c.args.txns.now c.args.plan.now.first
    (c.args.plan.now.first + c.args.to) c.in-Within.u c.key-key.result.now c.access-access.result.source newest c.in-Within.is in
    omega (arith, c.first-first.ensures)

pub loop-index-preserved : goal.loop-index-preserved
loop-index-preserved c =
    let txns = c.args.txns.now in
    let p = c.args.plan.now in
    let i = c.loop-index.index in
    let keys = c.keys-keys.result in
    let key = c.key-key.result.now in
    let place : c.first-first.result + c.args.to - p.first ≡ c.args.to = omega (arith, c.first-first.ensures) in
    let newest = right_source txns p c.args.set c.args.to i c.txn.result key c.access-access.result c.requires.right c.txn.ensures
    (rw c.keys-keys.ensures at c.key-key.ensures) (rw place at c.access-access.ensures) in
    let first = drop_at keys i key c.key-key.ensures in
    elim c.match-access.branch [
      | in-Before w ↦ rw w.out-is
          (record {
            arrows = no_arrow txns p.first c.args.to key c.access-access.result.source newest (drop i keys)
                (drop (i + 1) keys) first c.loop-index.out.items _ c.loop-index.invariant.arrows w.in-Before.is;
            few = omega arith;
          })
      | in-Within+in_ok-push-in-Within w ↦ rw w.out-is (record {
        arrows = one_arrow txns p.first c.args.to key c.access-access.result.source newest (drop i keys) (drop (i + 1) keys) first c.loop-index.out.items _
            c.loop-index.invariant.arrows w.in-Within.u (w.in-Within.u - c.first-first.result) _ w.in-Within.is
            (ap (λ f. w.in-Within.u - f) c.first-first.ensures) w.in_ok-push-in-Within.ensures.items;
        few = omega (
          arith,
          ap length w.in_ok-push-in-Within.ensures.items,
          length_push c.loop-index.out.items (record { from = w.in-Within.u - c.first-first.result; to = c.args.to; key = key }),
        );
      })
    ]

pub returns-clause-few : goal.returns-clause-few
returns-clause-few c =
    let few = few_keys c.args.set c.txn.result (usable_at c.args.txns.now c.requires.formed c.args.to c.txn.result c.txn.ensures) in
    omega (arith, ap length c.keys-keys.ensures)
