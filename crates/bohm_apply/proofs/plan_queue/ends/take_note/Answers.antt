use Rattle.std.proofs.Common.{◌≡◌, true}
use Rattle.crossbeam_channel.specs.Claims.{view}
use Rattle.bohm_apply.proofs.Moves.{gets}
use Rattle.bohm_apply.proofs.plan_queue.ends.take_note.Goals as goal

pub recv_as-requires-clause-rule : goal.recv_as-requires-clause-rule
recv_as-requires-clause-rule g c =
    let role : (view c.loop.pass).takes ≡ true = rw c.loop.invariant.1 c.requires.role in
    (gets g.L.Line.cutting _ _ role, λ items views h at. tt)
