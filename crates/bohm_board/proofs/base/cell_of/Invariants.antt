use Rattle.std.proofs.Common.{◌≡◌, drop}
use Rattle.bohm_types.specs.declared.cell.Cell.TheVariants.{Absent}
use Rattle.bohm_txn.specs.Meaning.{newest}
use Rattle.bohm_board.proofs.base.cell_of.Given as goal

abbrev pub invariant-loop-other : goal.invariant-loop-other
invariant-loop-other l = newest (drop l.other-index l.entries) l.key Absent ≡ newest l.entries l.key Absent
