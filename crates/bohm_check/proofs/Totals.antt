-- Counting the elements that pass a test, one element after another.
use Rattle.std.proofs.Common.{◌≡◌, ℕ, ◌+◌, ◌≤◌, Bool, true, false, List, length, drop, cond, count_by, Some, ap, ◌∙◌, arith}
use Rattle.std.specs.List.{slice_get}
use Rattle.std.proofs.lemmas.List.{drop_all}
use Rattle.std.proofs.lemmas.List.Sums.{sum_by-cons}
use Rattle.bohm_txn.proofs.ForCallers.{drop_at}

module _ {X : Type 0} (p : X → Bool) (xs : List X) (i : ℕ) (n total : ℕ) (so_far : n + count_by p (drop i xs) ≡ total) where
  count_next : (x : X) → slice_get xs i ≡ Some x → count_by p (drop i xs) ≡ cond (p x) 1 0 + count_by p (drop (i + 1) xs)
  count_next x at = rw (drop_at xs i x at) (sum_by-cons (λ (y : X). cond (p y) 1 0) x (drop (i + 1) xs))

  pub one_more : (x : X) → slice_get xs i ≡ Some x → p x ≡ true → n + 1 + count_by p (drop (i + 1) xs) ≡ total
  one_more x at holds =
      let step : count_by p (drop i xs) ≡ 1 + count_by p (drop (i + 1) xs) =
      count_next x at ∙ ap (λ (b : Bool). cond b 1 0 + count_by p (drop (i + 1) xs)) holds in
      omega (arith, step, so_far)

  pub no_more : (x : X) → slice_get xs i ≡ Some x → p x ≡ false → n + count_by p (drop (i + 1) xs) ≡ total
  no_more x at fails =
      let step : count_by p (drop i xs) ≡ 0 + count_by p (drop (i + 1) xs) =
      count_next x at ∙ ap (λ (b : Bool). cond b 1 0 + count_by p (drop (i + 1) xs)) fails in
      omega (arith, step, so_far)

  pub counted : length xs ≤ i → n ≡ total
  counted end =
      let none : count_by p (drop i xs) ≡ 0 = ap (count_by p) (drop_all i xs end) in
      omega (arith, none, so_far)
