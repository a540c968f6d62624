-- A position that the test finds among the deferred ones is deferred.
use Rattle.std.proofs.Common.{◌≡◌, ℕ, suc, List, [], ◌∷◌, Bool, true, Some, refl, ap, ◌∙◌, subst, ⊎_elim}
use Rattle.std.specs.Prelude.{◌==◌, Contains}
use Rattle.std.specs.Option.{option_map}
use Rattle.std.specs.List.{list_any, slice_get}
use Rattle.std.proofs.lemmas.Bool.{eqb-true, or_cases}
use Rattle.std.proofs.lemmas.Option.{slice_get-map}
use Rattle.bohm_exec.specs.Asides.{Pairs, IsSetAside, positions_in}
use Rattle.bohm_board.proofs.ForCallers.{contains_at}
use Rattle.bohm_layer_trials.specs.Samples.{has_position, is_set_aside}

abbrev Found : {A : Type 0} → (A → Bool) → List A → Type 0
Found {A} p xs = (j : ℕ) × (x : A) × (slice_get xs j ≡ Some x) × (p x ≡ true)

later : {A : Type 0} (p : A → Bool) (y : A) (xs : List A) → Found p xs → Found p (y ∷ xs)
later p y xs found = (suc found.0, found.1, found.2, found.3)

any_at : {A : Type 0} (p : A → Bool) (xs : List A) → list_any p xs ≡ true → Found p xs
any_at p [] e = absurd cc
any_at p (y ∷ xs) e = ⊎_elim
    (λ (h : p y ≡ true). (0, y, refl, h))
    (λ (h : list_any p xs ≡ true). later p y xs (any_at p xs h))
    (or_cases (p y) (list_any p xs) e)

pub tested_aside : (asides : List Pairs) (t : ℕ) → is_set_aside asides t ≡ true → IsSetAside asides t
tested_aside asides t e =
    let found = any_at (λ pairs. has_position pairs t) asides e in
    let pairs : Pairs = found.1 in
    let inside = any_at (λ p. p.0 == t) pairs found.3 in
    let at : slice_get (positions_in pairs) inside.0 ≡ Some inside.1.0 =
    slice_get-map (λ (p : ℕ × ℕ). p.0) pairs inside.0 ∙ ap (λ o. option_map (λ (p : ℕ × ℕ). p.0) o) inside.2 in (
      pairs,
      contains_at asides found.0 pairs found.2,
      subst (λ (u : ℕ). Contains (positions_in pairs) u) (eqb-true inside.1.0 t inside.3) (contains_at (positions_in pairs) inside.0 inside.1.0 at),
    )
