use Rattle.std.proofs.Common.{arith, ◌≡◌, Some, sym, ap, ◌∙◌, subst}
use Rattle.std.specs.Prelude.{Contains}
use Rattle.bohm_types.specs.declared.cell.Cell.{Cell}
use Rattle.bohm_board.specs.declared.knowledge.Rights.{Rights}
use Rattle.bohm_board.specs.declared.knowledge.View.{View}
use Rattle.bohm_board.specs.Batches.{slot_numbered}
use Rattle.bohm_board.specs.Views.{after_presence_look, after_look, IsUnseen}
use Rattle.bohm_board.specs.Encoding.{presence_at}
use Rattle.bohm_board.proofs.LawPreservation.{right_learnt}
use Rattle.bohm_board.proofs.Monotonicity.{learnt_present, present_from}
use Rattle.bohm_board.proofs.PassInvariant.{kept_along, kept_learnt}
use Rattle.bohm_board.proofs.SlotNumbers.{named_slot, right_there, right_by_word}
use Rattle.bohm_board.proofs.board.Board.look.Goals as goal
use Rattle.bohm_board.proofs.board.Board.look.Goals.{After-number-number}

here : (c : After-number-number) → slot_numbered c.args.pass.now.seat.me.0.right c.number-number.result ≡ c.args.slot
here c = named_slot c.args.self.now.batch _ c.args.slot _ c.requires.own.seat.right c.requires.inside c.number-number.ensures.number

pub invariant_of-pass : goal.invariant_of-pass
invariant_of-pass c = record {
  bare = c.see_presence.ensures.own.bare;
  fits = kept_along _ _ _ _ c.see_presence.ensures.view (kept_learnt _ _ _ _ _ c.args.pass.now.fits);
}

pub invariant_of-pass-in-1 : goal.invariant_of-pass-in-1
invariant_of-pass-in-1 c = record {
  bare = c.see_presence.ensures.own.bare;
  fits = kept_along _ _ _ _ c.see_presence.ensures.view (kept_learnt _ _ _ _ _ c.args.pass.now.fits);
}

pub see_value-value-requires-clause-known : goal.see_value-value-requires-clause-known
see_value-value-requires-clause-known c =
    let v = c.args.pass.now.seat.me.0 in
    let k = c.number-number.result in
    let P : View → Type 0 = λ z. Contains z.present (slot_numbered z.right k) in
    let x = slot_numbered v.right k in
    let w = after_presence_look v x (presence_at c.see_presence.result) in
    let known = learnt_present v x c.see_presence.result (λ z. omega arith) (λ z. omega arith) in
    subst P (sym c.see_presence.ensures.view) (subst (λ (r : Rights). Contains w.present (slot_numbered r k))
    (sym (right_learnt v x (presence_at c.see_presence.result))) known)

pub invariant_of-pass-in_default : goal.invariant_of-pass-in_default
invariant_of-pass-in_default c = record {
  bare = c.see_value-value.ensures.own.bare;
  fits = kept_along _ _ _ _ (c.see_value-value.ensures.view ∙ c.see_presence.ensures.view) (kept_learnt _ _ _ _ _ c.args.pass.now.fits);
}

pub returns-in-0-clause-none : goal.returns-in-0-clause-none
returns-in-0-clause-none c = λ _. subst (IsUnseen c.args.pass.now.seat.me.0) (here (goal.at.returns-in-0-clause-none c).After-number-number)
    (c.see_presence.ensures.empty c.in-0.is)

pub returns-in-1-clause-view : goal.returns-in-1-clause-view
returns-in-1-clause-view c =
    let slot = here (goal.at.returns-in-1-clause-view c).After-number-number in
    c.see_presence.ensures.view ∙ (λ i. after_presence_look c.args.pass.now.seat.me.0 (slot i) (presence_at (c.in-1.is i)))

pub returns-in-1-clause-right : goal.returns-in-1-clause-right
returns-in-1-clause-right c =
    let (cell, right) = right_there c.args.self.now.batch c.args.slot c.requires.inside in
    right_by_word c.args.self.now.batch c.args.slot cell right
    (sym (c.see_presence.ensures.right (λ z. omega arith) cell (rw c.number-number.ensures.number right)) ∙ c.in-1.is)

pub returns-in_default-clause-view : goal.returns-in_default-clause-view
returns-in_default-clause-view c =
    let v = c.args.pass.now.seat.me.0 in
    let slot = here (goal.at.returns-in_default-clause-view c).After-number-number in
    let two = present_from c.see_presence.result (λ z. omega arith) (λ z. omega arith) in
    c.see_value-value.ensures.view ∙ (c.see_presence.ensures.view
    ∙ ((λ i. after_presence_look v (slot i) (two i)) ∙ ap (λ (z : Cell). after_look v c.args.slot (Some z)) (sym c.present_cell.ensures)))
