use Rattle.std.proofs.Common.{take}
use Rattle.std.specs.List.{AllByRecursion}
use Rattle.bohm_types.specs.Sound.{IsName}
use Rattle.bohm_log.specs.Handles.{keys_named}
use Rattle.bohm_log.proofs.soundness.are_named.Given as goal

abbrev pub invariant-loop-handle : goal.invariant-loop-handle
invariant-loop-handle l = AllByRecursion IsName (take l.handle-index (keys_named l.handles))
