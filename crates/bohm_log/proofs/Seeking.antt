-- The index of a name in a list of names.
use Rattle.std.proofs.Common.{◌≡◌, ℕ, zero, suc, ◌+◌, true, false, cond, List, [], ◌∷◌, ◌++◌, Some, None, get_or, refl, ap, sym, ◌∙◌, slice_get}
use Rattle.std.specs.Prelude.{Bool, ◌||◌}
use Rattle.std.specs.List.{list_any, position, position_from}
use Rattle.std.specs.Str.{bytes_eq}
use Rattle.std.proofs.lemmas.Iterator.Adapters.{position_from-zero}
use Rattle.std.proofs.lemmas.List.Quantifiers.{position-Some}
use Rattle.std.proofs.lemmas.Bool.{or_right}
use Rattle.std.specs.Option.{unwrap_or}
use Rattle.std.proofs.lemmas.Option.{slice_get-get_or, same_Some, unwrap_or-slice_get}
use Rattle.std.specs.Cmp.Lexicographic.{pointwise}
use Rattle.std.proofs.lemmas.Slice.Eq.{bytes_eq-Decides, slice_eq-Decides}
use Rattle.bohm_types.specs.Keys.{place}
use Rattle.bohm_log.specs.Interning.{with_name}
use Rattle.bohm_log.specs.Parts.{IsApart}

pub found : (keys : List (List ℕ)) (k : List ℕ) (i : ℕ) → Some i ≡ place keys k → slice_get keys i ≡ Some k
found keys k i e =
    let p = position-Some (λ x. bytes_eq x k) keys i k (position_from-zero (λ x. bytes_eq x k) keys ∙ sym e) in
    slice_get-get_or keys i k p.0 ∙ ap Some ((bytes_eq-Decides (get_or keys i k) k).0 p.1)

pub none_from : (test : List ℕ → Bool) (i : ℕ) (xs : List (List ℕ)) → position_from test i xs ≡ None → list_any test xs ≡ false
none_from test i [] e = refl
none_from test i (x ∷ xs) e =
    elim (test x) as (λ b. cond b (Some i) (position_from test (i + 1) xs) ≡ None → (b || list_any test xs) ≡ false) [
      | true ↦ λ none. absurd cc
      | false ↦ λ none. none_from test (i + 1) xs none
    ] e

pub not_found : (keys : List (List ℕ)) (k : List ℕ) → None ≡ place keys k → IsApart keys k
not_found keys k e = λ few. none_from (λ x. bytes_eq x k) 0 keys (sym e)

some_from : (test : List ℕ → Bool) (i : ℕ) (xs : List (List ℕ)) (n : ℕ) → position_from test i xs ≡ Some n → list_any test xs ≡ true
some_from test i [] n e = absurd cc
some_from test i (x ∷ xs) n e =
    elim (test x) as (λ b. cond b (Some i) (position_from test (i + 1) xs) ≡ Some n → (b || list_any test xs) ≡ true) [
      | true ↦ λ some. refl
      | false ↦ λ some. some_from test (i + 1) xs n some
    ] e

-- adding a name that the search finds leaves the names unchanged
pub numbered_already : (names : List (List ℕ)) (k : List ℕ) (i : ℕ) → Some i ≡ position (bytes_eq k) names → names ≡ with_name names k
numbered_already names k i e =
    ap (λ b. cond b names (names ++ k ∷ [])) (sym (some_from (bytes_eq k) 0 names i (sym (position_from-zero (bytes_eq k) names) ∙ sym e)))

pub at_its_number : (names : List (List ℕ)) (k : List ℕ) (i : ℕ) → Some i ≡ position (bytes_eq k) names → slice_get names i ≡ Some k
at_its_number names k i e =
    let p = position-Some (bytes_eq k) names i k (sym e) in
    slice_get-get_or names i k p.0 ∙ ap Some (sym ((bytes_eq-Decides k (get_or names i k)).0 p.1))

any_at : (names : List (List ℕ)) (k : List ℕ) (i : ℕ) → slice_get names i ≡ Some k → list_any (bytes_eq k) names ≡ true
any_at [] k i e = absurd cc
any_at (x ∷ xs) k zero e = rw (same_Some x k e) (rw ((bytes_eq-Decides k k).1 refl) refl)
any_at (x ∷ xs) k (suc i) e = or_right (bytes_eq k x) (list_any (bytes_eq k) xs) (any_at xs k i e)

-- a name that was found at an index is the name that is read there
pub is_read : (names : List (List ℕ)) (i : ℕ) (k : List ℕ) → slice_get names i ≡ Some k → k ≡ get_or names i k
is_read names i k e = ap (λ o. unwrap_or o k) (sym e) ∙ unwrap_or-slice_get names i k

-- adding a name that is at some index leaves the names unchanged
pub named_already : (names : List (List ℕ)) (k : List ℕ) (i : ℕ) → slice_get names i ≡ Some k → names ≡ with_name names k
named_already names k i e = ap (λ b. cond b names (names ++ k ∷ [])) (sym (any_at names k i e))

pub same_sets : (xs ys : List (List ℕ)) → true ≡ pointwise bytes_eq xs ys → xs ≡ ys
same_sets xs ys e = (slice_eq-Decides bytes_eq-Decides xs ys true e).0 refl
