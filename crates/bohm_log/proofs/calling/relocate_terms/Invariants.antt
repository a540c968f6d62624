use Rattle.std.proofs.Common.{◌≡◌, ◌++◌, map, take}
use Rattle.bohm_log.specs.Calling.{term_to}
use Rattle.bohm_log.proofs.calling.relocate_terms.Given as goal

abbrev pub invariant-loop-term : goal.invariant-loop-term
invariant-loop-term l = l.column.items ≡ l.fn.column.items ++ map (term_to l.places) (take l.term-index l.terms)
