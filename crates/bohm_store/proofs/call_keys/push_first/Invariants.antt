-- The cells of the first numbers are in the registers.
use Rattle.std.proofs.Common.{◌≡◌, map, take, length}
use Rattle.bohm_types.specs.declared.cell.Cell.TheVariants.{Absent}
use Rattle.bohm_store.specs.Versions.{cell_at}
use Rattle.bohm_store.specs.Numbered.{versions_at}
use Rattle.bohm_store.proofs.call_keys.push_first.Given as goal

abbrev pub invariant-loop-number : goal.invariant-loop-number
invariant-loop-number l = record {
  so_far : l.registers.cells ≡ map (λ n. cell_at l.numbered.top (versions_at l.numbered n) Absent) (take l.number-index l.numbers);
  long : length l.registers.cells ≡ l.number-index;
}
