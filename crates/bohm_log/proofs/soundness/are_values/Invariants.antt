use Rattle.std.proofs.Common.{take}
use Rattle.std.specs.List.{AllByRecursion}
use Rattle.bohm_types.specs.Sound.{IsNumber}
use Rattle.bohm_log.proofs.soundness.are_values.Given as goal

abbrev pub invariant-loop-value : goal.invariant-loop-value
invariant-loop-value l = AllByRecursion IsNumber (take l.value-index l.values)
