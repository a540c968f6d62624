use Rattle.bohm_log.proofs.Placing.{PlacedUpTo}
use Rattle.bohm_log.proofs.call_places.find_places.Given as goal

abbrev pub invariant-loop-i : goal.invariant-loop-i
invariant-loop-i l = PlacedUpTo l.keys l.set l.places.items l.i
