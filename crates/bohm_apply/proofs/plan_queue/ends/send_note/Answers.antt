use Rattle.std.proofs.Common.{◌≡◌, true, ◌++◌, ◌∷◌, []}
use Rattle.crossbeam_channel.specs.Claims.{view}
use Rattle.bohm_apply.specs.Lines.{IsLine}
use Rattle.bohm_apply.proofs.Moves.{sends}
use Rattle.bohm_apply.proofs.plan_queue.ends.send_note.Goals as goal

pub send_as-requires-clause-rule : goal.send_as-requires-clause-rule
send_as-requires-clause-rule g c =
    let same = c.loop.invariant.1 in
    let role : (view c.loop.pass).sends ≡ true = rw same c.requires.role in
    let line : IsLine g.L.Line.cutting 0 ((view c.loop.pass).sent ++ c.loop.note ∷ []) = rw (same, c.loop.invariant.2) c.requires.line in
    (sends g.L.Line.cutting _ _ _ _ role line, λ items views h at. tt)
