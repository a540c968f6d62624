use Rattle.std.proofs.Common.{◌≡◌, ◌++◌, drop, take}
use Rattle.bohm_types.specs.Words.{before_zero}
use Rattle.bohm_c.proofs.entries.name_of.Given as goal

abbrev pub invariant-loop-end : goal.invariant-loop-end
invariant-loop-end l = before_zero l.bytes ≡ take l.end l.bytes ++ before_zero (drop l.end l.bytes)
