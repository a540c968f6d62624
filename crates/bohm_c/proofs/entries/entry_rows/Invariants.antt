use Rattle.std.proofs.Common.{◌≡◌, map, take}
use Rattle.bohm_c.specs.Entries.{entry_row}
use Rattle.bohm_c.proofs.entries.entry_rows.Given as goal

abbrev pub invariant-loop-key : goal.invariant-loop-key
invariant-loop-key l = l.rows.items ≡ map entry_row (take l.key-index l.entries)
