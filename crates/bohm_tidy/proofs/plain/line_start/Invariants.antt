use Rattle.std.proofs.Common.{◌≤◌, length}
use Rattle.bohm_tidy.proofs.plain.line_start.Given as goal

abbrev pub invariant-loop-line : goal.invariant-loop-line
invariant-loop-line l = length l.rest ≤ length l.text
