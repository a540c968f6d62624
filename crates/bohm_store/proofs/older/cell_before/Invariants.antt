use Rattle.std.proofs.Common.{◌≡◌, ◌≤◌, drop, length}
use Rattle.bohm_types.specs.declared.cell.Cell.TheVariants as cells
use Rattle.bohm_store.specs.Versions.{cell_at}
use Rattle.bohm_store.specs.Held.{held_versions}
use Rattle.bohm_store.specs.Numbered.{first_after}
use Rattle.bohm_store.proofs.older.cell_before.Given as goal

abbrev pub invariant-loop-i : goal.invariant-loop-i
invariant-loop-i l = record {
  inside : l.i ≤ length l.older.items;
  cell : l.cell ≡ cell_at l.ts (first_after l.ts (drop l.i l.older.items) l.number (held_versions l.fn.newest)) cells.Absent;
}

abbrev pub decreases-loop-i : goal.decreases-loop-i
decreases-loop-i l = l.i
