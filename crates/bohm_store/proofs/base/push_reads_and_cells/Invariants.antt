-- The cells of the first numbers are in the scratch, as reads and as cells.
use Rattle.std.proofs.Common.{◌≡◌, map, take, length}
use Rattle.bohm_types.specs.declared.cell.Cell.TheVariants.{Absent}
use Rattle.bohm_store.specs.Versions.{cell_at}
use Rattle.bohm_store.specs.Numbered.{versions_at}
use Rattle.bohm_store.proofs.base.push_reads_and_cells.Given as goal

abbrev pub invariant-loop-number : goal.invariant-loop-number
invariant-loop-number l = record {
  seen : l.scratch.seen ≡ map (λ n. cell_at l.numbered.top (versions_at l.numbered n) Absent) (take l.number-index l.numbers);
  cells : l.scratch.cells ≡ map (λ n. cell_at l.numbered.top (versions_at l.numbered n) Absent) (take l.number-index l.numbers);
  many_seen : length l.scratch.seen ≡ l.number-index;
  many_cells : length l.scratch.cells ≡ l.number-index;
}
