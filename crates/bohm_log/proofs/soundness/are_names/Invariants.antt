use Rattle.std.proofs.Common.{take}
use Rattle.std.specs.List.{AllByRecursion}
use Rattle.bohm_types.specs.Sound.{IsName}
use Rattle.bohm_log.proofs.soundness.are_names.Given as goal

abbrev pub invariant-loop-key : goal.invariant-loop-key
invariant-loop-key l = AllByRecursion IsName (take l.key-index l.keys)
