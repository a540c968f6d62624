-- A heaviest chain, found by a walk back along the arrows from its end.
use Rattle.std.proofs.Common.{◌≡◌, ◌≢◌, ◌∙◌, ◌==◌, true≢false, Bool, true, false, ℕ, zero, suc, ◌+◌, ◌<◌, ◌≤◌, List, [], ◌∷◌, ◌++◌}
use Rattle.std.proofs.Common.{length, slice_index, slice_index_or, sum_by, reverse, All, inl, inr, ⊎_elim, refl, sym, ap, subst, arith}
use Rattle.std.proofs.lemmas.Bool.{cases_eq, eqb-true, eq-eqb}
use Rattle.std.proofs.lemmas.List.{get_or_read, reverse-append}
use Rattle.std.proofs.lemmas.List.Sums.{sum_by-cons}
use Rattle.bohm_explain.specs.declared.arrow.Arrow.{Arrow}
use Rattle.bohm_explain.specs.Heaviest.{AreChainable, AreRising, IsInside, heaviest_to}
use Rattle.bohm_explain.specs.Walks.{goes_on}
use Rattle.bohm_explain.specs.Chains.{EndsAt, IsChain, IsChainFrom, IsWantedBy, last_of, weight_of}
use Rattle.bohm_explain.proofs.Chaining.{reaches}
use Rattle.bohm_explain.proofs.Rules.{rule_to}

-- each arrow leads upwards, to `least` or above
rises_from : (least : ℕ) (as' : List Arrow) (k : ℕ) (d : Arrow) → AreRising least as' → k < length as'
    → (least ≤ (slice_index_or as' k d).to) × ((slice_index_or as' k d).from < (slice_index_or as' k d).to)
rises_from least [] k d rises low = absurd (omega arith)
rises_from least (a ∷ rest) zero d rises low = (rises.0, rises.1)
rises_from least (a ∷ rest) (suc k) d rises low =
    let behind = rises_from a.to rest k d rises.2 (omega arith) in let up = rises.0 in let more = behind.0 in
    (omega (arith, up, more), behind.1)

-- no arrow leads to a position below that of an earlier arrow
rises_on : (least : ℕ) (as' : List Arrow) (i k : ℕ) (d e : Arrow) → AreRising least as' → i ≤ k → k < length as'
    → (slice_index_or as' i d).to ≤ (slice_index_or as' k e).to
rises_on least [] i k d e rises le low = absurd (omega arith)
rises_on least (a ∷ rest) zero zero d e rises le low = omega arith
rises_on least (a ∷ rest) zero (suc k) d e rises le low = (rises_from a.to rest k e rises.2 (omega arith)).0
rises_on least (a ∷ rest) (suc i) zero d e rises le low = absurd (omega (arith, le))
rises_on least (a ∷ rest) (suc i) (suc k) d e rises le low = rises_on a.to rest i k d e rises.2 (omega (arith, le)) (omega arith)

module _ (weights : List ℕ) (arrows : List Arrow) where
  abbrev n : ℕ
  n = length weights

  abbrev own : ℕ → ℕ
  own p = slice_index weights p

  abbrev to : ℕ → ℕ
  to p = slice_index (heaviest_to weights arrows) p

  -- the items, in reverse, are the part from `first` on of a heaviest chain to `end`
  pub record Walked (end first : ℕ) (items : List ℕ) : Type 0 where
    pub rest : List ℕ
    pub shape : reverse items ≡ first ∷ rest
    pub chain : IsChainFrom n arrows first rest
    pub ends : last_of first rest ≡ end
    pub weighs : to first + sum_by own rest ≡ to end

  -- no heaviest chain to `first` has one of the arrows from index i on as its last arrow
  abbrev pub IsPassed : ℕ → ℕ → Type 0
  IsPassed i first = (k : ℕ) (d : Arrow) → i ≤ k → k < length arrows → (slice_index_or arrows k d).to ≡ first
      → to (slice_index_or arrows k d).from + own first ≢ to first

  module _ (all : AreChainable weights arrows) (end first : ℕ) (items : List ℕ) (i : ℕ) (a : Arrow)
      (there : i < length arrows) (at : a ≡ slice_index_or arrows i a) where
    leads : IsWantedBy arrows a.from a.to
    leads = (a, (i, there, sym at), refl, refl)

    -- if a heaviest chain to `first` comes through the arrow, the walk continues at the arrow's start
    pub walk_on : a.to ≡ first → to a.from + own first ≡ to first → Walked end first items → Walked end a.from (items ++ a.from ∷ [])
    walk_on leads_to more w = record {
      rest = first ∷ w.rest;
      shape = reverse-append items (a.from ∷ []) ∙ ap (λ (xs : List ℕ). a.from ∷ xs) w.shape;
      chain = (
        (subst (IsInside n) (sym at) (all.inside i a there)).0,
        subst (IsWantedBy arrows a.from) leads_to leads,
        w.chain,
      );
      ends = w.ends;
      weighs = (let sum = w.weighs in omega (arith, sum, more, sum_by-cons own first w.rest));
    }

    -- no arrow from index i on leads to this arrow's start
    pub all_passed : IsPassed i a.from
    all_passed k d le low is = absurd (
        let on = rises_on 0 arrows i k a d all.rising le low in
        let up = (rises_from 0 arrows i a all.rising there).1 in
        let same : slice_index_or arrows i a ≡ a = sym at in
        omega (arith, rw same at on, rw same at up, is)
        )

    -- if neither arrow i nor a later one is the last arrow of a heaviest chain to `first`, none from index i on is
    pub one_passed : (a.to ≡ first → to a.from + own first ≢ to first) → IsPassed (i + 1) first → IsPassed i first
    one_passed isnt behind k d le low is more = ⊎_elim
        (λ same.
        let here : a ≡ slice_index_or arrows k d = rw same (get_or_read arrows i a there at d) in
        isnt (ap (λ (b : Arrow). b.to) here ∙ is) (ap (λ (b : Arrow). to b.from + own first) here ∙ more))
        (λ apart. behind k d (omega (arith, le, apart)) low is more)
        (cases_eq k i)

  -- each position of a chain is one of the n positions
  pub all_inside : (chain : List ℕ) → IsChain n arrows chain → All (λ p. p < n) chain
  all_inside [] chain k d low = absurd chain
  all_inside (p ∷ []) chain zero d low = chain
  all_inside (p ∷ []) chain (suc k) d low = absurd (omega (arith, low))
  all_inside (p ∷ q ∷ rest) chain zero d low = chain.0
  all_inside (p ∷ q ∷ rest) chain (suc k) d low = all_inside (q ∷ rest) chain.2 k d (omega (arith, low))

  begins_inside : (p : ℕ) (rest : List ℕ) → IsChainFrom n arrows p rest → p < n
  begins_inside p [] chain = chain
  begins_inside p (q ∷ rest) chain = chain.0

  -- if no heaviest chain to a position has a last arrow, the position alone is a heaviest chain
  alone : AreChainable weights arrows → (first : ℕ) → first < n → IsPassed 0 first → to first ≡ own first
  alone all first low passed =
      let rule = rule_to weights arrows first all.rising low in
      elim (reaches (λ x. x.to) (λ x. x.from) to first arrows) as (λ _. to first ≡ own first) [
        | inl none ↦ omega (arith, rule, none)
        | inr found ↦
            let a = found.0 in let has = found.1 in let at : a.to ≡ first = found.2 in let same = found.3 in
            let is : slice_index_or arrows has.0 a ≡ a = has.2 in
            absurd (passed has.0 a (omega arith) has.1 (ap (λ (b : Arrow). b.to) is ∙ at)
            (ap (λ (b : Arrow). to b.from + own first) is ∙ omega (arith, rule, same)))
      ]

  -- a walk that no arrow continues has found a heaviest chain
  pub walk_ends : AreChainable weights arrows → (end first : ℕ) (items : List ℕ) → Walked end first items → IsPassed 0 first
      → IsChain n arrows (reverse items) × EndsAt end (reverse items) × (weight_of weights (reverse items) ≡ to end)
  walk_ends all end first items w passed =
      let last = alone all first (begins_inside first w.rest w.chain) passed in
      subst (λ (xs : List ℕ). IsChain n arrows xs × EndsAt end xs × (weight_of weights xs ≡ to end)) (sym w.shape)
      (w.chain, w.ends, (let sum = w.weighs in omega (arith, sum, last, sum_by-cons own first w.rest)))

  -- ---- one more arrow is tried

  module _ (all : AreChainable weights arrows) (end first next : ℕ) (items items' : List ℕ) (i : ℕ) (a : Arrow)
      (there : i < length arrows) (at : a ≡ slice_index_or arrows i a)
      (on : goes_on weights (heaviest_to weights arrows) first a ≡ true → (next ≡ a.from) × (items' ≡ items ++ a.from ∷ []))
      (stays : goes_on weights (heaviest_to weights arrows) first a ≡ false → (next ≡ first) × (items' ≡ items)) where
    pub record Stepped : Type 0 where
      pub inside : next < n
      pub walked : Walked end next items'
      pub passed : IsPassed i next

    pub stepped : first < n → Walked end first items → IsPassed (i + 1) first → Stepped
    stepped low w passed = by (a.to == first) refl (to a.from + own first == to first) refl
      where
        from_inside : a.from < n
        from_inside = (subst (IsInside n) (sym at) (all.inside i a there)).0

        moved : a.to ≡ first → to a.from + own first ≡ to first → (next ≡ a.from) × (items' ≡ items ++ a.from ∷ []) → Stepped
        moved leads_to more is = record {
          inside = omega (arith, is.0, from_inside);
          walked = subst (λ (p : ℕ × List ℕ). Walked end p.0 p.1) (λ j. (sym is.0 j, sym is.1 j)) (walk_on all end first items i a there at leads_to more w);
          passed = subst (IsPassed i) (sym is.0) (all_passed all end first items i a there at);
        }

        kept : (a.to ≡ first → to a.from + own first ≢ to first) → (next ≡ first) × (items' ≡ items) → Stepped
        kept isnt is = record {
          inside = omega (arith, is.0, low);
          walked = subst (λ (p : ℕ × List ℕ). Walked end p.0 p.1) (λ j. (sym is.0 j, sym is.1 j)) w;
          passed = subst (IsPassed i) (sym is.0) (one_passed all end first items i a there at isnt passed);
        }

        by : (b : Bool) → (a.to == first) ≡ b → (d : Bool) → (to a.from + own first == to first) ≡ d → Stepped
        by true e true f = moved (eqb-true a.to first e) (eqb-true (to a.from + own first) (to first) f) (on (rw (e, f) refl))
        by true e false f = kept (λ is more. true≢false (sym (eq-eqb (to a.from + own first) (to first) more) ∙ f)) (stays (rw (e, f) refl))
        by false e d f = kept (λ is more. true≢false (sym (eq-eqb a.to first is) ∙ e)) (stays (rw e refl))
