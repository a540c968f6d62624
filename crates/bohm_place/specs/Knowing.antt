-- What a planning worker knows of the parts of keys, by their numbers.
use Rattle.std.specs.Prelude.{◌≡◌, ℕ, ◌<◌, ◌≤◌, Bool, true, false, List, length, slice_index_or}
use Rattle.bohm_log.specs.Parts.{name_at}
use Rattle.bohm_place.specs.declared.worker.Known.{Known}
use Rattle.bohm_place.specs.declared.worker.Known.TheVariants.{Nothing, Own, Foreign}

-- what is known of a key is right, whether it is the worker's or not
abbrev pub IsKnown : Bool → Known → Type 0
IsKnown own Nothing = Unit {0}
IsKnown own Own = own ≡ true
IsKnown own Foreign = own ≡ false

-- what one of several workers knows of each name's key is right, and it has room for each
pub record AreKnown (mine : List ℕ → Bool) (workers : ℕ) (names : List (List ℕ)) (known : List Known) : Type 0 where
  pub long : 1 < workers → length names ≤ length known
  pub each : (n : ℕ) → n < length names → IsKnown (mine (name_at names n)) (slice_index_or known n Nothing)
