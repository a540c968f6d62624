-- A list built element by element, the elements that a list contains, and tests over its first elements.
use Rattle.std.proofs.Common.{◌≡◌, ℕ, zero, suc, ◌+◌, List, [], ◌∷◌, ◌++◌, take, drop, Some, refl, ap, sym, ◌∙◌, inl, inr, ◌⊎◌, arith, append_assoc}
use Rattle.std.specs.Prelude.{Bool, ◌||◌}
use Rattle.std.specs.List.{Contains, list_any, slice_get}
use Rattle.std.proofs.lemmas.List.Folds.{list_any_more}
use Rattle.std.proofs.lemmas.Option.{get_or_from_slice_get, slice_get_within}
use Rattle.bohm_log.proofs.ForCallers.{drop_at}

-- after element i is appended, the following elements are the rest of the whole
pub push_more : {A : Type 0} (xs : List A) (i : ℕ) (x : A) (out longer whole : List A) → slice_get xs i ≡ Some x → longer ≡ out ++ x ∷ []
    → out ++ drop i xs ≡ whole → longer ++ drop (i + 1) xs ≡ whole
push_more xs i x out longer whole at more so_far =
    ap (λ (ys : List _). ys ++ drop (i + 1) xs) more
    ∙ append_assoc out (x ∷ []) (drop (i + 1) xs)
    ∙ ap (λ (ys : List _). out ++ ys) (sym (drop_at xs i x at))
    ∙ so_far

pub contains_head : {A : Type 0} (x : A) (xs : List A) → Contains (x ∷ xs) x
contains_head x xs = (0, omega arith, refl)

pub contains_tail : {A : Type 0} (x y : A) (xs : List A) → Contains xs y → Contains (x ∷ xs) y
contains_tail x y xs h = (suc h.0, omega (arith, h.1), h.2)

pub contains_cases : {A : Type 0} (x y : A) (xs : List A) → Contains (x ∷ xs) y → (x ≡ y) ⊎ Contains xs y
contains_cases x y xs (zero, lt, e) = inl e
contains_cases x y xs (suc k, lt, e) = inr (k, omega (arith, lt), e)

pub any_more : {A : Type 0} (p : A → Bool) (xs : List A) (i : ℕ) (x : A) → slice_get xs i ≡ Some x
    → list_any p (take (i + 1) xs) ≡ (list_any p (take i xs) || p x)
any_more p xs i x at = list_any_more p xs i x (slice_get_within xs i x at) ∙ ap (λ y. list_any p (take i xs) || p y) (get_or_from_slice_get xs i x x at)
