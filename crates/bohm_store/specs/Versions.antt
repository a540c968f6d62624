-- The versions of each key, and the past stores that they determine.
use Rattle.std.specs.Prelude.{◌≡◌, ℕ, ◌+◌, ◌≤◌, ◌<◌, ◌⊎◌, List, [], ◌∷◌, ◌++◌, Contains, All, if◌then◌else◌, nat_le, length, unwrap_or}
use Rattle.std.specs.Str.{bytes_eq}
use Rattle.std.specs.Map.{lookup}
use Rattle.bohm_types.specs.declared.cell.Cell.{Cell}
use Rattle.bohm_types.specs.declared.cell.Cell.TheVariants.{Absent}
use Rattle.bohm_types.specs.Txn.{Txn}
use Rattle.bohm_types.specs.Keys.{is_among}
use Rattle.bohm_txn.specs.Meaning.{Look}
use Rattle.bohm_txn.specs.Serial.{after}
use Rattle.bohm_store.specs.declared.version.Version.{Version}

-- ---- the versions of one key, oldest first

-- each begins above the one before
abbrev pub Rises : List Version → Type 0
Rises [] = Unit {0}
Rises (v ∷ vs) = All (λ w. v.begin < w.begin) vs × Rises vs

-- it is the latest of the versions that begin at or below ts
pub record IsNewestAt (ts : ℕ) (vs : List Version) (v : Version) : Type 0 where
  pub there : Contains vs v
  pub low : v.begin ≤ ts
  pub newest : All (λ w. w.begin ≤ ts → w.begin ≤ v.begin) vs

-- the cell is that of the version with the greatest begin at or below ts, or it is absent and there is none
abbrev pub IsCellAt : ℕ → List Version → Cell → Type 0
IsCellAt ts vs c = ((v : Version) × IsNewestAt ts vs v × (v.cell ≡ c)) ⊎ (All (λ v. ts < v.begin) vs × (c ≡ Absent))

-- the cell of the last one that begins at or below ts, or the cell before all of them
abbrev pub cell_at : ℕ → List Version → Cell → Cell
cell_at ts [] before = before
cell_at ts (v ∷ vs) before = cell_at ts vs (if nat_le v.begin ts then v.cell else before)

-- the version is kept: it begins above the floor, or is the newest one at or below it
abbrev pub IsKept : ℕ → List Version → Version → Type 0
IsKept floor vs v = (Contains vs v × (floor < v.begin)) ⊎ IsNewestAt floor vs v

-- the kept ones, of ascending versions
abbrev pub kept_versions : ℕ → List Version → List Version
kept_versions floor [] = []
kept_versions floor (v ∷ []) = v ∷ []
kept_versions floor (v ∷ w ∷ ws) = if nat_le w.begin floor then kept_versions floor (w ∷ ws) else (v ∷ w ∷ ws)

-- those that begin at or below a timestamp
abbrev pub versions_to : ℕ → List Version → List Version
versions_to ts [] = []
versions_to ts (v ∷ vs) = if nat_le v.begin ts then v ∷ versions_to ts vs else versions_to ts vs

-- ---- the versions of all keys

-- a version with its key
pub record KeyedVersion : Type 0 where
  pub begin : ℕ
  pub key : List ℕ
  pub cell : Cell

-- the contract view of a history: a floor, a top, and its versions by key
pub record Timeline : Type 0 where
  pub floor : ℕ
  pub top : ℕ
  pub chains : List (List ℕ × List Version)

-- the versions of a key in a list by key
abbrev pub versions_in : List (List ℕ × List Version) → List ℕ → List Version
versions_in chains k = unwrap_or (lookup (bytes_eq k) chains) []

abbrev pub versions : Timeline → List ℕ → List Version
versions t k = versions_in t.chains k

-- Past(ts): what each key holds after the transaction at ts
abbrev pub past : Timeline → ℕ → Look
past t ts = λ k. cell_at ts (versions t k) Absent

-- the greatest number that a count of versions tells
abbrev pub most_counted : ℕ
most_counted = 18446744073709551615

-- the number of versions
abbrev pub total : List (List ℕ × List Version) → ℕ
total [] = 0
total (e ∷ es) = length e.1 + total es

-- the versions that transactions give a key, the first of which is at u and sees this look: one for each that declares to write it, even if aborted
abbrev pub produced_versions : ℕ → Look → List Txn → List ℕ → List Version
produced_versions u look [] k = []
produced_versions u look (t ∷ ts) k =
    (if is_among t.writes k then record { begin = u; cell = after look t k } ∷ [] else []) ++ produced_versions (u + 1) (after look t) ts k

-- the number of declared writes
abbrev pub declared_writes : List Txn → ℕ
declared_writes [] = 0
declared_writes (t ∷ ts) = length t.writes + declared_writes ts
