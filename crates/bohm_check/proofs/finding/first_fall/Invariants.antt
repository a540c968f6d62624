use Rattle.std.proofs.Common.{◌≡◌, ◌+◌, ◌-◌, ◌≤◌, drop, length}
use Rattle.bohm_types.specs.Keys.{names_of}
use Rattle.bohm_check.specs.Lines.{first_fall}
use Rattle.bohm_check.proofs.finding.first_fall.Given as goal

abbrev pub invariant-loop-index : goal.invariant-loop-index
invariant-loop-index l = (first_fall (drop (l.index - 1) (names_of l.store)) + (l.index - 1) ≡ first_fall (names_of l.store)) × (l.index ≤ length l.store + 1)
