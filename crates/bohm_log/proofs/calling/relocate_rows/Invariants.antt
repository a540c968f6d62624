use Rattle.std.proofs.Common.{◌≡◌, ◌++◌, map, take}
use Rattle.bohm_log.specs.Calling.{row_to}
use Rattle.bohm_log.proofs.calling.relocate_rows.Given as goal

abbrev pub invariant-loop-row : goal.invariant-loop-row
invariant-loop-row l = l.column.items ≡ l.fn.column.items ++ map (row_to l.reads l.writes) (take l.row-index l.rows)
