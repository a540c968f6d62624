use Rattle.std.proofs.Common.{◌≡◌, true, false, sym, ◌∙◌, ap}
use Rattle.std.specs.List.{slice_get}
use Rattle.std.proofs.Common.{Some}
use Rattle.bohm_txn.specs.Sure.{is_target}
use Rattle.bohm_txn.proofs.sureness.are_targets.Goals as goal
use Rattle.bohm_log.proofs.ForCallers.{drop_at}

pub returns-then-not-is_target : goal.returns-then-not-is_target
returns-then-not-is_target c =
    let txn = c.args.txn.now in
    let there : slice_get txn.writes c.loop-place.place ≡ Some c.key.result.now =
    ap (λ ks. slice_get ks c.loop-place.place) (sym c.writes-keys.ensures) ∙ c.key.ensures in
    let other : is_target txn.body c.key.result.now ≡ false = cc in
    rw other at (rw (drop_at txn.writes c.loop-place.place c.key.result.now there) at c.loop-place.invariant)

pub loop-place-preserved : goal.loop-place-preserved
loop-place-preserved c =
    let txn = c.args.txn.now in
    let there : slice_get txn.writes c.loop-place.place ≡ Some c.key.result.now =
    ap (λ ks. slice_get ks c.loop-place.place) (sym c.writes-keys.ensures) ∙ c.key.ensures in
    let one : is_target txn.body c.key.result.now ≡ true = cc in
    rw one at (rw (drop_at txn.writes c.loop-place.place c.key.result.now there) at c.loop-place.invariant)
