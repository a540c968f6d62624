-- Lists of keys: order, membership, indices.
use Rattle.std.specs.Prelude.{◌≡◌, ℕ, ℤ, List, [], ◌∷◌, map, slice_get, Bool, true, false, ◌&&◌, Option, Some, None}
use Rattle.std.specs.List.{list_any, position_from}
use Rattle.std.specs.Str.{bytes_eq}
use Rattle.std.specs.Ordering.{nat_cmp, is_lt}
use Rattle.std.specs.Cmp.Lexicographic.{slice_cmp}

-- ---- in order

abbrev pub rises_from : List ℕ → List (List ℕ) → Bool
rises_from k [] = true
rises_from k (n ∷ ns) = is_lt (slice_cmp nat_cmp k n) && rises_from n ns

-- each key is below the next
abbrev pub rising : List (List ℕ) → Bool
rising [] = true
rising (k ∷ ks) = rises_from k ks

-- the keys of entries
abbrev pub names_of : List (List ℕ × ℤ) → List (List ℕ)
names_of entries = map (λ e. e.0) entries

-- ---- among others

abbrev pub is_among : List (List ℕ) → List ℕ → Bool
is_among keys k = list_any (λ x. bytes_eq x k) keys

-- the key is one of these
abbrev pub IsAmong : List (List ℕ) → List ℕ → Type 0
IsAmong keys k = is_among keys k ≡ true

-- there is a key, and it passes
abbrev pub some_passes : (List ℕ → Bool) → Option (List ℕ) → Bool
some_passes p None = false
some_passes p (Some k) = p k

-- ---- indices

-- the index of a key's first occurrence
abbrev pub place : List (List ℕ) → List ℕ → Option ℕ
place keys k = position_from (λ x. bytes_eq x k) 0 keys

-- the key's index in the list, or `None` if it isn't there
abbrev pub IsPlaceOf : List (List ℕ) → List ℕ → Option ℕ → Type 0
IsPlaceOf keys k (Some i) = slice_get keys i ≡ Some k
IsPlaceOf keys k None = list_any (λ x. bytes_eq x k) keys ≡ false
