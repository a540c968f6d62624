-- The versions of one key, and the writes that make them.
use Rattle.std.specs.Prelude.{ℕ, ℤ, ◌≤◌, ◌<◌, List, [], ◌∷◌, ◌++◌, map, if◌then◌else◌, All}
use Rattle.std.specs.Str.{bytes_eq}
use Rattle.bohm_types.specs.declared.cell.Cell.{Cell}
use Rattle.bohm_types.specs.declared.cell.Cell.TheVariants.{Absent, Present}
use Rattle.bohm_store.specs.declared.version.Version.{Version}
use Rattle.bohm_store.specs.Versions.{KeyedVersion, cell_at}

-- the begins of the versions after the oldest one
abbrev pub later_begins : List Version → List ℕ
later_begins [] = []
later_begins (v ∷ vs) = map (λ v. v.begin) vs

-- only the newest one
abbrev pub newest_only : List Version → List Version
newest_only [] = []
newest_only (v ∷ []) = v ∷ []
newest_only (v ∷ w ∷ ws) = newest_only (w ∷ ws)

abbrev pub Above : ℕ → List Version → Type 0
Above ts vs = All (λ v. ts < v.begin) vs

abbrev pub UpTo : ℕ → List Version → Type 0
UpTo ts vs = All (λ v. v.begin ≤ ts) vs

-- the one version of a key that starts with this cell
abbrev pub starting_versions : Cell → List Version
starting_versions Absent = []
starting_versions (Present z) = record { begin = 0; cell = Present z } ∷ []

-- the versions that these writes give a key
abbrev pub versions_of_writes : List KeyedVersion → List ℕ → List Version
versions_of_writes [] k = []
versions_of_writes (w ∷ ws) k = (if bytes_eq w.key k then record { begin = w.begin; cell = w.cell } ∷ [] else []) ++ versions_of_writes ws k

-- the writes begin at or above n, each at or above the one before, and none above the top
abbrev pub Climb : ℕ → List KeyedVersion → ℕ → Type 0
Climb n [] top = n ≤ top
Climb n (w ∷ ws) top = (n ≤ w.begin) × Climb w.begin ws top

-- ---- a store

abbrev pub cell_entry : List ℕ → Cell → List (List ℕ × ℤ) → List (List ℕ × ℤ)
cell_entry k Absent rest = rest
cell_entry k (Present z) rest = (k, z) ∷ rest

-- the keys of a history that have a value at a timestamp, with that value
abbrev pub timeline_entries_at : ℕ → List (List ℕ × List Version) → List (List ℕ × ℤ)
timeline_entries_at ts [] = []
timeline_entries_at ts (e ∷ es) = cell_entry e.0 (cell_at ts e.1 Absent) (timeline_entries_at ts es)
