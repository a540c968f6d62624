use Rattle.bohm_place.specs.Plans.{HasSourcesOf, IsRightPlan}
use Rattle.bohm_board.specs.Bases.{keys_of}
use Rattle.bohm_place.proofs.ForCallers.{AreNotedBelow}
use Rattle.bohm_board.proofs.batch.base_places.note_places.Given as goal

abbrev pub invariant-loop-i : goal.invariant-loop-i
invariant-loop-i l = record {
  sources : HasSourcesOf l.initial.plan l.plan;
  right : ∥ IsRightPlan l.txns l.plan ∥₁;
  noted : AreNotedBelow l.txns l.plan (keys_of l.entries) l.i;
}
