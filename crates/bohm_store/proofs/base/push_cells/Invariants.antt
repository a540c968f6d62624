-- The cells of the first numbers are in the scratch.
use Rattle.std.proofs.Common.{◌≡◌, map, take, length}
use Rattle.bohm_types.specs.declared.cell.Cell.TheVariants.{Absent}
use Rattle.bohm_store.specs.Versions.{cell_at}
use Rattle.bohm_store.specs.Numbered.{versions_at}
use Rattle.bohm_store.proofs.base.push_cells.Given as goal

abbrev pub invariant-loop-number : goal.invariant-loop-number
invariant-loop-number l = record {
  so_far : l.scratch.cells ≡ map (λ n. cell_at l.numbered.top (versions_at l.numbered n) Absent) (take l.number-index l.numbers);
  long : length l.scratch.cells ≡ l.number-index;
  seen : l.scratch.seen ≡ l.initial.scratch.seen;
  shows : l.scratch.shows ≡ l.initial.scratch.shows;
}
