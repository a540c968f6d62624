use Rattle.std.proofs.Common.{arith, ◌≡◌, ◌++◌, [], ◌∷◌, length, length-append, ap}
use Rattle.crossbeam_channel.specs.Claims.{view}
use Rattle.bohm_apply.specs.Lines.{IsLine, IsNoteAt, LineEnd}
use Rattle.bohm_apply.proofs.Moves.{line_next, sender_after}
use Rattle.bohm_apply.proofs.plan_queue.ends.PlanSender.send.Goals as goal

pub send_note-requires-clause-line : goal.send_note-requires-clause-line
send_note-requires-clause-line g c =
    let note : IsNoteAt g.L.Line.cutting (length c.args.self.now.notes) c.args.note =
    record { number = c.requires.number; batch = omega (arith, c.requires.number, c.requires.batch); plan = c.requires.plan } in
    let same : (view c.self.inside.pass).sent ≡ c.args.self.now.notes = ap (λ (e : LineEnd). e.notes) c.self.view_is in
    line_next g.L.Line.cutting (view c.self.inside.pass).sent c.args.note c.self.invariant.3 (rw same c.requires.open) (rw same note)

pub invariant_of-self : goal.invariant_of-self
invariant_of-self g c =
    let sent = (view c.self.inside.pass).sent in
    let note : IsNoteAt g.L.Line.cutting (length c.args.self.now.notes) c.args.note =
    record { number = c.requires.number; batch = omega (arith, c.requires.number, c.requires.batch); plan = c.requires.plan } in
    let same : sent ≡ c.args.self.now.notes = ap (λ (e : LineEnd). e.notes) c.self.view_is in
    let line : IsLine g.L.Line.cutting 0 (sent ++ c.args.note ∷ []) =
    line_next g.L.Line.cutting sent c.args.note c.self.invariant.3 (rw same c.requires.open) (rw same note) in
    let counted : c.args.note.number ≡ length (sent ++ c.args.note ∷ []) =
    omega (arith, c.requires.number, length-append sent (c.args.note ∷ []), ap length same) in (
      c.send_note.ensures.seat,
      sender_after (view c.self.inside.pass) (view c.send_note.new.pass) c.args.note c.self.invariant.1 c.send_note.ensures.sent,
      rw c.send_note.ensures.sent counted,
      rw c.send_note.ensures.sent line,
    )
