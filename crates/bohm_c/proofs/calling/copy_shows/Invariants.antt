use Rattle.std.proofs.Common.{◌≡◌, ◌++◌, drop, take}
use Rattle.bohm_c.proofs.calling.copy_shows.Given as goal

abbrev pub invariant-loop-index : goal.invariant-loop-index
invariant-loop-index l = l.shown ≡ take l.index l.shows ++ drop l.index l.initial.shown
