use Rattle.std.proofs.Common.{◌≤◌, drop, length}
use Rattle.bohm_place.specs.Chains.{begins}
use Rattle.bohm_place.proofs.Rising.{From}
use Rattle.bohm_place.proofs.chain.Chain.greatest_below.Given as goal

abbrev pub invariant-loop-i : goal.invariant-loop-i
invariant-loop-i l = (l.i ≤ length l.self.older.items) × From l.ts (begins (drop l.i l.self.older.items))

abbrev pub decreases-loop-i : goal.decreases-loop-i
decreases-loop-i l = l.i
