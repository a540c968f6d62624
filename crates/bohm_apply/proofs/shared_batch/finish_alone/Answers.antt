use Rattle.std.proofs.Common.{◌∷◌, []}
use Rattle.bohm_board.specs.Passes.{batch_of, view}
use Rattle.bohm_apply.proofs.Swept.{left_aside}
use Rattle.bohm_apply.proofs.shared_batch.finish_alone.Goals as goal

pub complete-requires-clause-aside : goal.complete-requires-clause-aside
complete-requires-clause-aside c =
    rw c.from_ref-asides.ensures.value (left_aside c.close-closed.result (batch_of c.args.board) (view c.sweep_left.new.pass) (c.in-Ok.aside ∷ [])
    c.close-closed.ensures.batch c.in-Ok.ensures.all c.close-closed.ensures.done)
