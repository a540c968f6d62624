-- Keys by their numbers.
use Rattle.std.proofs.Common.{◌≡◌, ℕ, zero, suc, ◌+◌, ◌<◌, ◌∙◌, Bool, true, false, ◌||◌, List, [], ◌∷◌, length, get_or, Some, None}
use Rattle.std.proofs.Common.{refl, sym, ap, inl, inr, ◌⊎◌, ⊎_elim, arith, slice_get}
use Rattle.std.specs.List.{IsDistinct, AllByRecursion, position}
use Rattle.std.proofs.lemmas.Iterator.Adapters.{position_from-zero}
use Rattle.std.proofs.lemmas.List.Quantifiers.{position-Some}
use Rattle.std.proofs.lemmas.Option.{get_or_from_slice_get, slice_get_within}
use Rattle.std.specs.Str.{bytes_eq}
use Rattle.std.specs.Cmp.Lexicographic.{nat_list_eq_equiv}
use Rattle.bohm_types.specs.Keys.{is_among}
use Rattle.bohm_log.specs.Parts.{name_at}
use Rattle.bohm_log.proofs.ForCallers.{none_from}
use Rattle.bohm_txn.proofs.ForCallers.{among_then, key_itself, same_key}
use Rattle.bohm_store.specs.declared.version.Version.{Version}
use Rattle.bohm_store.specs.Versions.{versions_in}
use Rattle.bohm_store.specs.Numbered.{named}
use Rattle.bohm_board.proofs.ForCallers.{member_among}

apart_at : (x : List ℕ) (names : List (List ℕ)) (i : ℕ) → AllByRecursion (λ y. bytes_eq x y ≡ false) names → i < length names
    → bytes_eq (get_or names i []) x ≡ false
apart_at x [] i h lt = absurd (omega arith)
apart_at x (y ∷ names) zero h lt = nat_list_eq_equiv.symm y x ∙ h.0
apart_at x (y ∷ names) (suc i) h lt = apart_at x names i h.1 (omega arith)

-- the key at an index has the versions that `f` gives for the key's number
named_at : (f : ℕ → List Version) (from : ℕ) (names : List (List ℕ)) (i : ℕ) → IsDistinct bytes_eq names → i < length names
    → versions_in (named f from names) (get_or names i []) ≡ f (from + i)
unfolding IsDistinct
named_at f from [] i d lt = absurd (omega arith)
named_at f from (k ∷ names) zero d lt = let e : from + 0 ≡ from = omega arith in rw (key_itself k, e) refl
named_at f from (k ∷ names) (suc i) d lt =
    let e : (from + 1) + i ≡ from + suc i = omega arith in
    rw (apart_at k names i d.0 (omega arith)) (named_at f (from + 1) names i d.1 (omega arith) ∙ ap f e)

pub length-named : (f : ℕ → List Version) (from : ℕ) (names : List (List ℕ)) → length (named f from names) ≡ length names
length-named f from [] = refl
length-named f from (k ∷ names) = ap suc (length-named f (from + 1) names)

pub versions_named : (f : ℕ → List Version) (names : List (List ℕ)) (n : ℕ) → IsDistinct bytes_eq names → n < length names
    → versions_in (named f 0 names) (name_at names n) ≡ f n
versions_named f names n d lt = let e : 0 + n ≡ n = omega arith in named_at f 0 names n d lt ∙ ap f e

none_by : (f : ℕ → List Version) (from : ℕ) (x : List ℕ) (names : List (List ℕ)) (k : List ℕ) (b : Bool) → bytes_eq x k ≡ b
    → (b || is_among names k) ≡ false → (is_among names k ≡ false → versions_in (named f (from + 1) names) k ≡ [])
    → versions_in (named f from (x ∷ names)) k ≡ []
none_by f from x names k true e h more = absurd cc
none_by f from x names k false e h more = let other : bytes_eq k x ≡ false = nat_list_eq_equiv.symm k x ∙ e in rw other (more h)

versions_none_from : (f : ℕ → List Version) (from : ℕ) (names : List (List ℕ)) (k : List ℕ) → is_among names k ≡ false → versions_in (named f from names) k ≡ []
versions_none_from f from [] k h = refl
versions_none_from f from (x ∷ names) k h = none_by f from x names k (bytes_eq x k) refl h (versions_none_from f (from + 1) names k)

pub versions_none : (f : ℕ → List Version) (names : List (List ℕ)) (k : List ℕ) → is_among names k ≡ false → versions_in (named f 0 names) k ≡ []
versions_none f names k h = versions_none_from f 0 names k h

-- ---- each key has a number or isn't among the names

pub record HasNumber (names : List (List ℕ)) (k : List ℕ) : Type 0 where
  pub number : ℕ
  pub inside : number < length names
  pub is : name_at names number ≡ k

number_by : (x : List ℕ) (names : List (List ℕ)) (k : List ℕ) (b : Bool) → bytes_eq x k ≡ b → HasNumber names k ⊎ (is_among names k ≡ false)
    → HasNumber (x ∷ names) k ⊎ (is_among (x ∷ names) k ≡ false)
number_by x names k true e more = inl (record { number = 0; inside = omega arith; is = same_key x k e })
number_by x names k false e more = ⊎_elim
    (λ (h : HasNumber names k). inl (record { number = suc h.number; inside = omega (arith, h.inside); is = h.is }))
    (λ none. inr (rw e none))
    more

pub number_of : (names : List (List ℕ)) (k : List ℕ) → HasNumber names k ⊎ (is_among names k ≡ false)
number_of [] k = inr refl
number_of (x ∷ names) k = number_by x names k (bytes_eq x k) refl (number_of names k)

pub among_place : (ks : List (List ℕ)) (i : ℕ) (k : List ℕ) → i < length ks → get_or ks i [] ≡ k → is_among ks k ≡ true
among_place [] i k lt e = absurd (omega arith)
among_place (x ∷ ks) zero k lt e = let same : bytes_eq x k ≡ true = ap (λ (y : List ℕ). bytes_eq y k) e ∙ key_itself k in rw same refl
among_place (x ∷ ks) (suc i) k lt e = among_then x k ks (among_place ks i k (omega arith) e)

-- ---- a key that was looked up

-- a key that the look-up didn't find isn't among the names
pub not_found : (names : List (List ℕ)) (k : List ℕ) → position (bytes_eq k) names ≡ None → is_among names k ≡ false
not_found names k e = sym (member_among names k) ∙ none_from (bytes_eq k) 0 names (sym (position_from-zero (bytes_eq k) names) ∙ e)

-- the index that the look-up found is the key's number
pub found_at : (names : List (List ℕ)) (k : List ℕ) (n : ℕ) → position (bytes_eq k) names ≡ Some n → (n < length names) × (name_at names n ≡ k)
found_at names k n e = let p = position-Some (bytes_eq k) names n [] e in (p.0, sym (same_key k (get_or names n []) p.1))

pub placed_at : (names : List (List ℕ)) (k : List ℕ) (n : ℕ) → slice_get names n ≡ Some k → (n < length names) × (name_at names n ≡ k)
placed_at names k n e = (slice_get_within names n k e, get_or_from_slice_get names n k [] e)
