use Rattle.std.proofs.Common.{arith, ◌≡◌, ◌++◌, [], ◌∷◌, length, length-append, ap, subst, List}
use Rattle.crossbeam_channel.specs.Claims.{view}
use Rattle.bohm_apply.specs.Lines.{IsLine, IsNoteAt, LineEnd}
use Rattle.bohm_apply.specs.declared.plan_queue.note.PlanNote.{PlanNote}
use Rattle.bohm_apply.specs.declared.plan_queue.rule.End.{End}
use Rattle.bohm_apply.proofs.Moves.{line_end, receiver_after}
use Rattle.bohm_apply.proofs.plan_queue.ends.PlanReceiver.take.Goals as goal

pub invariant_of-self : goal.invariant_of-self
invariant_of-self g c =
    let old = (view c.self.inside.pass).taken in
    let note = c.take_note-note.result in
    let taken : (view c.take_note-note.new.pass).taken ≡ old ++ note ∷ [] = ap (λ (v : End). v.taken) c.take_note-note.ensures.taken in
    let line : IsLine g.L.Line.cutting 0 (old ++ note ∷ []) = subst (λ (l : List PlanNote). IsLine g.L.Line.cutting 0 l) taken c.take_note-note.ensures.line in
    let counted : note.number ≡ length (old ++ note ∷ []) = omega (arith, (line_end g.L.Line.cutting old note line).number, length-append old (note ∷ [])) in (
      c.take_note-note.ensures.seat,
      receiver_after (view c.self.inside.pass) (view c.take_note-note.new.pass) note c.self.invariant.1 c.take_note-note.ensures.taken,
      rw taken counted,
    )

pub returns-clause-note : goal.returns-clause-note
returns-clause-note g c =
    let old = (view c.self.inside.pass).taken in
    let note = c.take_note-note.result in
    let taken : (view c.take_note-note.new.pass).taken ≡ old ++ note ∷ [] = ap (λ (v : End). v.taken) c.take_note-note.ensures.taken in
    let line : IsLine g.L.Line.cutting 0 (old ++ note ∷ []) = subst (λ (l : List PlanNote). IsLine g.L.Line.cutting 0 l) taken c.take_note-note.ensures.line in
    let at : IsNoteAt g.L.Line.cutting (length old) note = line_end g.L.Line.cutting old note line in
    let same : old ≡ c.args.self.now.notes = ap (λ (e : LineEnd). e.notes) c.self.view_is in
    subst (λ (l : List PlanNote). IsNoteAt g.L.Line.cutting (length l) note) same at
