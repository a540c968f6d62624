use Rattle.std.proofs.Common.{◌≡◌, ◌+◌, ◌++◌, List, ℕ, None, length, ap, sym, subst, take, ◌∙◌, arith, length-append, slice_get}
use Rattle.std.proofs.lemmas.List.{length-take-le}
use Rattle.std.proofs.lemmas.Option.{slice_get_within}
use Rattle.bohm_log.specs.Interning.{IsInterned}
use Rattle.bohm_log.proofs.Seeking.{numbered_already, at_its_number}
use Rattle.bohm_log.proofs.Layers.{found_front, with_behind, got_behind, still_interned}
use Rattle.bohm_log.proofs.layered_names.LayeredNames.id.Goals as goal

pub returns-in-Some-clause-names : goal.returns-in-Some-clause-names
returns-in-Some-clause-names g c =
    let front : List (List ℕ) = take c.self.inside.shown c.self.inside.shared in
    numbered_already c.args.self.now c.args.name c.in-Some.number
    (found_front c.args.name front c.self.inside.own c.args.self.now c.in-Some.number c.self.view_is c.in-Some.ensures)

pub returns-in-Some-clause-named : goal.returns-in-Some-clause-named
returns-in-Some-clause-named g c =
    let front : List (List ℕ) = take c.self.inside.shown c.self.inside.shared in
    at_its_number c.args.self.now c.args.name c.in-Some.number
    (found_front c.args.name front c.self.inside.own c.args.self.now c.in-Some.number c.self.view_is c.in-Some.ensures)

pub returns-in-Some-find-clause-names : goal.returns-in-Some-find-clause-names
returns-in-Some-find-clause-names g c = numbered_already c.args.self.now c.args.name c.in-Some-find.number c.in-Some-find.ensures

pub returns-in-Some-find-clause-named : goal.returns-in-Some-find-clause-named
returns-in-Some-find-clause-named g c = at_its_number c.args.self.now c.args.name c.in-Some-find.number c.in-Some-find.ensures

pub invariant_of-self-2 : goal.invariant_of-self-2
invariant_of-self-2 g c =
    let front : List (List ℕ) = take c.self.inside.shown c.self.inside.shared in
    let none : None ≡ _ = sym c.in_default.is ∙ c.find_among.ensures in (
      c.self.invariant.0,
      rw (c.in_ok-number.ensures.names, with_behind c.args.name front c.self.inside.own c.args.self.now c.self.view_is none)
          (still_interned c.args.self.now c.args.name (subst IsInterned c.self.view_is c.self.invariant.1)
          (omega (arith, c.if-len.false, c.len.ensures))),
    )

pub returns-clause-names : goal.returns-clause-names
returns-clause-names g c =
    let front : List (List ℕ) = take c.self.inside.shown c.self.inside.shared in
    ap (λ (own : List (List ℕ)). front ++ own) c.in_ok-number.ensures.names
    ∙ with_behind c.args.name front c.self.inside.own c.args.self.now c.self.view_is (sym c.in_default.is ∙ c.find_among.ensures)

pub returns-clause-named : goal.returns-clause-named
returns-clause-named g c =
    let front : List (List ℕ) = take c.self.inside.shown c.self.inside.shared in
    let long : length front ≡ c.self.inside.shown = length-take-le c.self.inside.shown c.self.inside.shared c.self.invariant.0 in
    ap (λ n. slice_get (front ++ c.id.new.self) (n + c.in_ok-number.number)) (sym long)
    ∙ (got_behind front c.id.new.self c.in_ok-number.number ∙ c.in_ok-number.ensures.named)

pub overflow_add-result : goal.overflow_add-result
overflow_add-result g c =
    let front : List (List ℕ) = take c.self.inside.shown c.self.inside.shared in
    omega (
      arith,
      c.if-len.false,
      c.len.ensures,
      ap length c.self.view_is,
      length-append front c.self.inside.own,
      length-take-le c.self.inside.shown c.self.inside.shared c.self.invariant.0,
      slice_get_within c.id.new.self c.in_ok-number.number c.args.name c.in_ok-number.ensures.named,
      c.in_ok-number.ensures.longer,
    )
