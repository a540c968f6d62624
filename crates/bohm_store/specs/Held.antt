-- The newest version of each key, by its number.
use Rattle.std.specs.Prelude.{ℕ, List, [], ◌∷◌, slice_index_or}
use Rattle.bohm_types.specs.declared.cell.Cell.TheVariants as cells
use Rattle.bohm_store.specs.declared.version.Version.{Version}
use Rattle.bohm_hints.specs.declared.held.Held.{Held}
use Rattle.bohm_hints.specs.declared.held.Held.TheVariants.{Never, Absent, Present}

abbrev pub held_versions : Held → List Version
held_versions Never = []
held_versions (Absent begin) = record { begin = begin; cell = cells.Absent } ∷ []
held_versions (Present begin z) = record { begin = begin; cell = cells.Present z } ∷ []

-- the newest version of the key with this number, if it has one
abbrev pub held_at : List Held → ℕ → List Version
held_at now n = held_versions (slice_index_or now n Never)
