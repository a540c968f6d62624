use Rattle.std.proofs.Common.{◌≡◌, ◌+◌, ◌++◌, drop, length}
use Rattle.bohm_log.specs.Calling.{let_large, let_terms}
use Rattle.bohm_log.specs.Parts.{Begins}
use Rattle.bohm_log.proofs.calling.add_values.Given as goal

abbrev pub invariant-loop-i : goal.invariant-loop-i
invariant-loop-i l = Begins l.fn.column.items l.column.items
    × (l.column.items ++ let_terms l.many (drop l.i l.values) ≡ l.fn.column.items ++ let_terms l.large l.values)
    × (l.many + length (let_large (drop l.i l.values)) ≡ l.large + length (let_large l.values))
