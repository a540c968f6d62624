use Rattle.std.proofs.Common.{take}
use Rattle.bohm_check.specs.Names.{AreNamesOf}
use Rattle.bohm_check.proofs.names.names_of.Given as goal

abbrev pub invariant-loop-place : goal.invariant-loop-place
invariant-loop-place l = AreNamesOf (take l.place l.keys) l.names
