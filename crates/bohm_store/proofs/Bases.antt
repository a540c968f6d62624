-- A list of keys with the cell of each.
use Rattle.std.proofs.Common.{◌≡◌, ℕ, Bool, true, false, ◌||◌, List, [], ◌∷◌, map, refl, ap, if◌then◌else◌}
use Rattle.std.specs.Str.{bytes_eq}
use Rattle.bohm_types.specs.declared.cell.Cell.{Cell}
use Rattle.bohm_types.specs.Keys.{is_among}
use Rattle.bohm_txn.specs.Meaning.{newest}
use Rattle.bohm_txn.proofs.ForCallers.{same_key}
use Rattle.bohm_board.specs.Bases.{keys_of}

pub keys_paired : (f : List ℕ → Cell) (ks : List (List ℕ)) → keys_of (map (λ k. (k, f k)) ks) ≡ ks
keys_paired f [] = refl
keys_paired f (k ∷ ks) = ap (λ (xs : List (List ℕ)). k ∷ xs) (keys_paired f ks)

newest_kept : (f : List ℕ → Cell) (ks : List (List ℕ)) (k : List ℕ) (before : Cell) → before ≡ f k → newest (map (λ j. (j, f j)) ks) k before ≡ f k
newest_kept f [] k before e = e
newest_kept f (x ∷ ks) k before e = newest_kept f ks k (if bytes_eq x k then f x else before) (by (bytes_eq x k) refl)
  where
    by : (b : Bool) → bytes_eq x k ≡ b → (if b then f x else before) ≡ f k
    by true is = ap f (same_key x k is)
    by false is = e

newest_by : (f : List ℕ → Cell) (x : List ℕ) (ks : List (List ℕ)) (k : List ℕ) (before : Cell) (b : Bool) → bytes_eq x k ≡ b
    → (b || is_among ks k) ≡ true → ((c : Cell) → is_among ks k ≡ true → newest (map (λ j. (j, f j)) ks) k c ≡ f k)
    → newest (map (λ j. (j, f j)) ks) k (if b then f x else before) ≡ f k
newest_by f x ks k before true is h more = newest_kept f ks k (f x) (ap f (same_key x k is))
newest_by f x ks k before false is h more = more before h

pub newest_paired : (f : List ℕ → Cell) (ks : List (List ℕ)) (k : List ℕ) (before : Cell) → is_among ks k ≡ true
    → newest (map (λ j. (j, f j)) ks) k before ≡ f k
newest_paired f [] k before h = absurd cc
newest_paired f (x ∷ ks) k before h = newest_by f x ks k before (bytes_eq x k) refl h (λ c. newest_paired f ks k c)
