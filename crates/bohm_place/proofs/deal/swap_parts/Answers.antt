use Rattle.std.proofs.Common.{arith, ◌≡◌, ◌%◌, ◌==◌, true, false, slice_get, Some}
use Rattle.std.proofs.lemmas.Bool.Decides.{nat_tests}
use Rattle.std.proofs.lemmas.Option.{slice_get-get_or}
use Rattle.bohm_place.proofs.Swaps.{swapped, kept, ended}
use Rattle.bohm_place.proofs.deal.swap_parts.Goals.{then-p-worker, else-p-worker}
use Rattle.bohm_place.proofs.deal.swap_parts.Goals as goal

pub loop-p-preserved : goal.loop-p-preserved
loop-p-preserved g c =
    let n = c.args.worker.count in
    let k = c.args.worker.number in
    let p = c.loop-p.p in
    let old_a = c.args.a.now in
    let old_b = c.args.b.now in
    let a = c.loop-p.a in
    let b = c.loop-p.b in
    elim c.if-p-worker.branch [
      | then-p-worker w ↦
          let mine : ((p % n) == k) ≡ true = grind (arith, nat_tests) in
          let x_is : slice_get b p ≡ Some w.swap.new.x = rw w.swap.ensures.x_after (slice_get-get_or b p w.index-b-p.result (omega arith)) in
          let y_is : slice_get a p ≡ Some w.swap.new.y = rw w.swap.ensures.y_after (slice_get-get_or a p w.index-a-p.result (omega arith)) in
          rw (w.a-is, w.b-is) (
            swapped n k p a b old_a old_b w.swap.new.x (omega arith) (omega arith) (omega arith) x_is mine c.loop-p.invariant.0 c.loop-p.invariant.1,
            swapped n k p b a old_b old_a w.swap.new.y (omega arith) (omega arith) (omega arith) y_is mine c.loop-p.invariant.1 c.loop-p.invariant.0,
          )
      | else-p-worker w ↦
          let other : ((p % n) == k) ≡ false = grind (arith, nat_tests) in
          rw (w.a-is, w.b-is) (kept n k p a old_a old_b other c.loop-p.invariant.0, kept n k p b old_b old_a other c.loop-p.invariant.1)
    ]

pub returns-clause-a : goal.returns-clause-a
returns-clause-a g c = ended c.args.worker.count c.args.worker.number c.loop-p.p c.loop-p.a c.args.a.now c.args.b.now (omega arith) c.loop-p.invariant.0

pub returns-clause-b : goal.returns-clause-b
returns-clause-b g c = λ j low. ended c.args.worker.count c.args.worker.number c.loop-p.p c.loop-p.b c.args.b.now c.args.a.now
    (omega arith) c.loop-p.invariant.1 j (omega arith)
