use Rattle.std.proofs.Common.{◌≡◌}
use Rattle.bohm_place.specs.Plans.{HasSourcesOf, IsRightPlan}
use Rattle.bohm_board.specs.Bases.{keys_of}
use Rattle.bohm_place.proofs.ForCallers.{AreNotedBelow}
use Rattle.bohm_board.proofs.batch.own_places.note_in_order.Given as goal
use Rattle.bohm_board.proofs.DeclaredPlaces.{before}

abbrev pub invariant-loop-i : goal.invariant-loop-i
invariant-loop-i l = record {
  from : l.from ≡ before l.txns l.i;
  sources : HasSourcesOf l.initial.plan l.plan;
  right : ∥ IsRightPlan l.txns l.plan ∥₁;
  noted : AreNotedBelow l.txns l.plan (keys_of l.entries) l.i;
}
