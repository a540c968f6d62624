-- A sum over the first elements of a list, with one more element.
use Rattle.std.proofs.Common.{◌≡◌, ℕ, ◌+◌, List, take, Some, slice_get, sum_by, ap, ◌∙◌}
use Rattle.std.proofs.lemmas.List.Sums.{sum_by_more}
use Rattle.std.proofs.lemmas.Option.{get_or_from_slice_get, slice_get_within}

module _ {A : Type 0} (xs : List A) (i : ℕ) (x : A) (at : slice_get xs i ≡ Some x) where
  pub sum_more : (f : A → ℕ) → sum_by f (take (i + 1) xs) ≡ sum_by f (take i xs) + f x
  sum_more f = sum_by_more f xs i x (slice_get_within xs i x at) ∙ ap (λ (y : A). sum_by f (take i xs) + f y) (get_or_from_slice_get xs i x x at)
