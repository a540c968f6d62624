use Rattle.std.proofs.Common.{◌<◌}
use Rattle.bohm_tidy.proofs.doubles.least_double.Given as goal

abbrev pub invariant-loop-index : goal.invariant-loop-index
invariant-loop-index l = l.start < l.index
