use Rattle.std.proofs.Common.{◌≡◌, ◌∙◌, List, ℕ, length, None, refl, sym, take}
use Rattle.std.proofs.lemmas.List.{length-take-le}
use Rattle.bohm_log.proofs.Layers.{found_front, found_behind}
use Rattle.bohm_log.proofs.layered_names.LayeredNames.find.Goals as goal

pub returns-in_err-number-in-None : goal.returns-in_err-number-in-None
returns-in_err-number-in-None g c =
    let front : List (List ℕ) = take c.self.inside.shown c.self.inside.shared in
    c.from_residual.ensures
    ∙ sym (found_behind c.args.name.now front c.self.inside.own c.args.self.now c.self.view_is c.in-None.ensures
    ∙ rw (← c.in_err-number-in-None.ensures) (refl {a = None}))

pub returns-in-Some : goal.returns-in-Some
returns-in-Some g c =
    let front : List (List ℕ) = take c.self.inside.shown c.self.inside.shared in
    found_front c.args.name.now front c.self.inside.own c.args.self.now c.in-Some.number c.self.view_is c.in-Some.ensures

pub returns-in_ok-number-in-None : goal.returns-in_ok-number-in-None
returns-in_ok-number-in-None g c =
    let front : List (List ℕ) = take c.self.inside.shown c.self.inside.shared in
    let long : length front ≡ c.self.inside.shown = length-take-le c.self.inside.shown c.self.inside.shared c.self.invariant.0 in
    sym (found_behind c.args.name.now front c.self.inside.own c.args.self.now c.self.view_is c.in-None.ensures
    ∙ rw (← c.in_ok-number-in-None.ensures, long) refl)
