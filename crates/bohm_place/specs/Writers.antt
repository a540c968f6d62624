-- The writers of a key, and the newest of them below a timestamp. The first of the transactions has the timestamp `first`.
use Rattle.std.specs.Prelude.{◌≡◌, ℕ, ◌+◌, ◌-◌, ◌<◌, List, [], ◌∷◌, ◌++◌, Some, slice_get, if◌then◌else◌}
use Rattle.bohm_types.specs.Txn.{Txn}
use Rattle.bohm_types.specs.Keys.{IsAmong, is_among}
use Rattle.bohm_place.specs.declared.access.Source.{Source}
use Rattle.bohm_place.specs.declared.access.Source.TheVariants.{Before, Within}

-- the transaction with the timestamp u
pub record HasTxn (first : ℕ) (txns : List Txn) (u : ℕ) (txn : Txn) : Type 0 where
  pub place : ℕ
  pub timestamp : u ≡ first + place
  pub is_at : slice_get txns place ≡ Some txn

-- the transaction with the timestamp u declares to write the key
pub record Writes (first : ℕ) (txns : List Txn) (k : List ℕ) (u : ℕ) : Type 0 where
  pub txn : Txn
  pub there : HasTxn first txns u txn
  pub declared : IsAmong txn.writes k

-- the declared write of u at this index is a write of the key
pub record WritesAt (first : ℕ) (txns : List Txn) (k : List ℕ) (u index : ℕ) : Type 0 where
  pub txn : Txn
  pub there : HasTxn first txns u txn
  pub declared : slice_get txn.writes index ≡ Some k

-- Writers(k, t) for all t at once: the timestamps of the transactions that write the key, rising
abbrev pub writers : ℕ → List Txn → List ℕ → List ℕ
writers first [] k = []
writers first (t ∷ ts) k = (if is_among t.writes k then first ∷ [] else []) ++ writers (first + 1) ts k

-- u is the greatest number below t for which P holds
pub record IsGreatestBelow (P : ℕ → Type 0) (t u : ℕ) : Type 0 where
  pub below : u < t
  pub holds : P u
  pub none_between : (v : ℕ) → u < v → v < t → ¬ P v

-- the source is the newest writer of the key below t, or `Before` if there is none
abbrev pub IsNewest : ℕ → List Txn → List ℕ → ℕ → Source → Type 0
IsNewest first txns k t Before = (v : ℕ) → v < t → ¬ Writes first txns k v
IsNewest first txns k t (Within u) = IsGreatestBelow (Writes first txns k) t u

-- the number of transactions up to the source
abbrev pub upto : ℕ → Source → ℕ
upto first Before = 0
upto first (Within u) = (u + 1) - first

-- Newest(k, t): the source's timestamp, or 0
abbrev pub newest_of : Source → ℕ
newest_of Before = 0
newest_of (Within u) = u
