use Rattle.std.proofs.Common.{◌∷◌, [], All}
use Rattle.std.proofs.lemmas.Result.{IfOk-weaker}
use Rattle.bohm_board.specs.Passes.{batch_of, view}
use Rattle.bohm_exec.specs.Asides.{IsAccountedFor}
use Rattle.bohm_apply.specs.Sweeps.{AreAllSwept}
use Rattle.bohm_apply.proofs.SharedRest.{swept_left}
use Rattle.bohm_apply.proofs.shared_batch.sweep_left.Goals as goal

pub returns-clause-all : goal.returns-clause-all
returns-clause-all c =
    let b = batch_of c.args.board.now in
    let left = c.in_ok-left.left.items in
    let v = view c.unfinished.new.pass in
    let w = view c.sweep.new.pass in
    let each = let h = c.sweep.ensures.each in rw c.deref.ensures.value at h in
    IfOk-weaker c.sweep.result (λ aside. All (IsAccountedFor b w aside) left) (λ aside. AreAllSwept b w (aside ∷ []))
    (λ aside all. swept_left b v w left aside c.sweep.ensures.keeps c.in_ok-left.ensures.left all) each
