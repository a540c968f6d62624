use Rattle.std.proofs.Common.{◌≡◌, sym, ap, ◌∙◌, subst}
use Rattle.std.specs.Prelude.{Contains}
use Rattle.std.proofs.lemmas.List.Elements.{Contains-push}
use Rattle.bohm_types.specs.declared.cell.Cell.TheVariants.{Absent, Present}
use Rattle.bohm_board.specs.declared.slot.Slot.{Slot}
use Rattle.bohm_board.specs.declared.knowledge.View.{View}
use Rattle.bohm_board.specs.Batches.{slot_numbered}
use Rattle.bohm_board.specs.Steps.{IsFillable}
use Rattle.bohm_board.specs.Views.{after_value_store, after_presence_store, after_fill}
use Rattle.bohm_board.proofs.PassInvariant.{kept_along, kept_filled}
use Rattle.bohm_board.proofs.SlotNumbers.{named_slot}
use Rattle.bohm_board.proofs.board.Board.fill.Goals as goal
use Rattle.bohm_board.proofs.board.Board.fill.Goals.{After-number-number}

here : (c : After-number-number) → slot_numbered c.args.pass.now.seat.me.0.right c.number-number.result ≡ c.args.slot
here c = named_slot c.args.self.now.batch _ c.args.slot _ c.requires.own.seat.right c.requires.inside c.number-number.ensures.number

fillable : (c : After-number-number) → IsFillable c.args.self.now.batch c.args.pass.now.seat.me.0
    (slot_numbered c.args.pass.now.seat.me.0.right c.number-number.result)
fillable c = subst (IsFillable c.args.self.now.batch c.args.pass.now.seat.me.0) (sym (here c))
    (record { holds = c.requires.held; wanted = c.requires.wanted; unfilled = c.requires.empty })

pub store_presence-requires-clause-fillable : goal.store_presence-requires-clause-fillable
store_presence-requires-clause-fillable c = fillable (goal.at.store_presence-requires-clause-fillable c).After-number-number

pub store_value-requires-clause-fillable : goal.store_value-requires-clause-fillable
store_value-requires-clause-fillable c = fillable (goal.at.store_value-requires-clause-fillable c).After-number-number

pub store_value-requires-clause-once : goal.store_value-requires-clause-once
store_value-requires-clause-once c = c.args.pass.now.fits.whole _ (fillable (goal.at.store_value-requires-clause-once c).After-number-number).unfilled

pub store_presence-requires-in-Present-clause-fillable : goal.store_presence-requires-in-Present-clause-fillable
store_presence-requires-in-Present-clause-fillable c =
    let b = c.args.self.now.batch in
    let k = c.number-number.result in
    let P : View → Type 0 = λ z. IsFillable b z (slot_numbered z.right k) in
    let old = fillable (goal.at.store_presence-requires-in-Present-clause-fillable c).After-number-number in
    subst P (sym c.store_value.ensures.view) (record { holds = old.holds; wanted = old.wanted; unfilled = old.unfilled })

pub store_presence-requires-in-Present-clause-stored : goal.store_presence-requires-in-Present-clause-stored
store_presence-requires-in-Present-clause-stored c =
    let v = c.args.pass.now.seat.me.0 in
    let k = c.number-number.result in
    let P : View → Type 0 = λ z. Contains z.stored (slot_numbered z.right k) in
    subst P (sym c.store_value.ensures.view) (Contains-push v.stored (slot_numbered v.right k))

pub invariant_of-pass : goal.invariant_of-pass
invariant_of-pass c = record {
  bare = c.store_presence.ensures.own.bare;
  fits = kept_along _ _ _ _ c.store_presence.ensures.view (kept_filled c.args.pass.now.seat.me.0 _ Absent _ _ c.args.pass.now.fits);
}

pub invariant_of-pass-in-Present : goal.invariant_of-pass-in-Present
invariant_of-pass-in-Present c =
    let v = c.args.pass.now.seat.me.0 in
    let k = c.number-number.result in record {
      bare = c.store_presence-in-Present.ensures.own.bare;
      fits = kept_along _ _ _ _ (c.store_presence-in-Present.ensures.view
          ∙ ap (λ (z : View). after_presence_store z (slot_numbered z.right k)) c.store_value.ensures.view)
          (kept_filled v (slot_numbered v.right k) (Present c.in-Present.value) _ _ c.args.pass.now.fits);
    }

pub returns-in-Absent-clause-view : goal.returns-in-Absent-clause-view
returns-in-Absent-clause-view c = c.store_presence.ensures.view ∙ (ap (after_presence_store c.args.pass.now.seat.me.0)
    (here (goal.at.returns-in-Absent-clause-view c).After-number-number) ∙ ap (after_fill c.args.pass.now.seat.me.0 c.args.slot) (sym c.in-Absent.is))

pub returns-in-Present-clause-view : goal.returns-in-Present-clause-view
returns-in-Present-clause-view c =
    let v = c.args.pass.now.seat.me.0 in
    let k = c.number-number.result in
    c.store_presence-in-Present.ensures.view ∙ (ap (λ (z : View). after_presence_store z (slot_numbered z.right k)) c.store_value.ensures.view
    ∙ (ap (λ (x : Slot). after_presence_store (after_value_store v x) x) (here (goal.at.returns-in-Present-clause-view c).After-number-number)
    ∙ ap (after_fill v c.args.slot) (sym c.in-Present.is)))
