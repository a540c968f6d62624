-- The set of some keys: each key once, in ascending order.
use Rattle.std.specs.Prelude.{ℕ, List, [], ◌∷◌}
use Rattle.std.specs.Ordering.{nat_cmp}
use Rattle.std.specs.Cmp.Lexicographic.{slice_cmp}
use Rattle.std.specs.declared.cmp.Ordering.{Ordering}
use Rattle.std.specs.declared.cmp.Ordering.TheVariants.{Less, Equal, Greater}

-- inserts the key before the first one, drops it if they are equal, or inserts it further on, depending on how it compares with the first
abbrev pub inserted_by : Ordering → List ℕ → List ℕ → List (List ℕ) → List (List ℕ) → List (List ℕ)
inserted_by Less k x xs further = k ∷ x ∷ xs
inserted_by Equal k x xs further = x ∷ xs
inserted_by Greater k x xs further = x ∷ further

-- ascending keys with one more, unless it is among them
abbrev pub inserted : List ℕ → List (List ℕ) → List (List ℕ)
inserted k [] = k ∷ []
inserted k (x ∷ xs) = inserted_by (slice_cmp nat_cmp k x) k x xs (inserted k xs)

-- each of these keys once, in ascending order
abbrev pub key_set : List (List ℕ) → List (List ℕ)
key_set [] = []
key_set (k ∷ ks) = inserted k (key_set ks)
