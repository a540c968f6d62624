-- The newest placeholders by key number. Placeholders of earlier batches are recognized by their begins.
use Rattle.std.specs.Prelude.{◌≡◌, ℕ, ◌+◌, ◌<◌, ◌≤◌, Bool, true, List, [], length, All, slice_index_or, if◌then◌else◌}
use Rattle.std.specs.List.{IsDistinct}
use Rattle.std.specs.Str.{bytes_eq}
use Rattle.bohm_types.specs.Txn.{Txn}
use Rattle.bohm_log.specs.Parts.{name_at, names_at}
use Rattle.bohm_place.specs.declared.placeholder.Placeholder.{Placeholder}
use Rattle.bohm_place.specs.Chains.{none, last_or}
use Rattle.bohm_place.specs.Shares.{within, placeholders_written, found_by, ahead_of}

-- the newest placeholder of the key with this number
abbrev pub newest_at : List Placeholder → ℕ → Placeholder
newest_at newest n = slice_index_or newest n none

-- the placeholder that a worker finds for the key with this number, in the batch that starts at `first`
abbrev pub found_at : (List ℕ → Bool) → ℕ → List (List ℕ) → List Placeholder → ℕ → Placeholder
found_at mine first names newest n = if mine (name_at names n) then within first (newest_at newest n) else none

-- each name has one number, and there is a placeholder for each number
pub record IsCovered (names : List (List ℕ)) (newest : List Placeholder) : Type 0 where
  pub apart : IsDistinct bytes_eq names
  pub long : length names ≤ length newest

-- the second list has the placeholders of u, which writes the keys with these numbers
pub record AreNumbersPlaced (mine : List ℕ → Bool) (first u : ℕ) (names : List (List ℕ)) (numbers : List ℕ) (old new : List Placeholder) : Type 0 where
  pub long : length new ≡ length old
  pub below : (t : ℕ) → u < t → All (λ v. v.begin < t) old → All (λ v. v.begin < t) new
  pub each : (n : ℕ) → n < length names → mine (name_at names n) ≡ true
      → within first (newest_at new n) ≡ last_or (within first (newest_at old n)) (placeholders_written u 0 (names_at names numbers) (name_at names n))

-- a worker's keys have their newest placeholders from the transactions `ahead`, the first ones of the batch
pub record StandsBehind (mine : List ℕ → Bool) (first : ℕ) (names : List (List ℕ)) (ahead : List Txn) (newest : List Placeholder) : Type 0 where
  pub long : length names ≤ length newest
  pub below : All (λ v. v.begin < first + length ahead) newest
  pub each : (n : ℕ) → n < length names → mine (name_at names n) ≡ true → within first (newest_at newest n) ≡ ahead_of first ahead (name_at names n)

-- a worker's result: the newest placeholders of its keys from the transactions before each access, and the array after the batch
pub record IsFoundByNumber (mine : List ℕ → Bool) (first : ℕ) (txns : List Txn) (out newest : List Placeholder) : Type 0 where
  pub found : out ≡ found_by mine (ahead_of first) [] txns
  pub below : All (λ v. v.begin < first + length txns) newest
