use Rattle.std.proofs.Common.{◌≡◌, map, take}
use Rattle.std.specs.List.{AllByRecursion}
use Rattle.bohm_types.specs.Keys.{names_of}
use Rattle.bohm_types.specs.Sound.{IsName}
use Rattle.bohm_c.specs.Entries.{entry_of}
use Rattle.bohm_c.proofs.entries.entries_of.Given as goal

abbrev pub invariant-loop-row : goal.invariant-loop-row
invariant-loop-row l = (l.entries.items ≡ map entry_of (take l.row-index l.rows)) × AllByRecursion IsName (names_of l.entries.items)
