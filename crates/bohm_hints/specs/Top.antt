-- The cells of keys at the top of a history.
use Rattle.std.specs.Prelude.{ℕ, List, slice_index_or, position}
use Rattle.std.specs.Option.{unwrap_or, option_map}
use Rattle.std.specs.Str.{bytes_eq}
use Rattle.bohm_types.specs.declared.cell.Cell.{Cell}
use Rattle.bohm_types.specs.declared.cell.Cell.TheVariants as cells
use Rattle.bohm_hints.specs.declared.held.Held.{Held}
use Rattle.bohm_hints.specs.declared.held.Held.TheVariants.{Never, Absent, Present}
use Rattle.bohm_hints.specs.declared.top_cells.TopCells.{TopCells}

-- the cell of what is held
abbrev pub held_cell : Held → Cell
held_cell Never = cells.Absent
held_cell (Absent begin) = cells.Absent
held_cell (Present begin z) = cells.Present z

-- the newest version of a key among these names, if it has one; a key's number is its index among the names
abbrev pub held_by : List (List ℕ) → List Held → List ℕ → Held
held_by names newest k = unwrap_or (option_map (λ n. slice_index_or newest n Never) (position (bytes_eq k) names)) Never

-- the cell that a key has at the top
abbrev pub top_cell : TopCells → List ℕ → Cell
top_cell t k = held_cell (held_by t.names.now t.newest.now k)
