use Rattle.std.proofs.Common.{◌≡◌, All}
use Rattle.bohm_board.specs.Batches.{IsIn}
use Rattle.bohm_board.specs.Passes.{IsPassOf, HoldsNothing, batch_of, view}
use Rattle.bohm_apply.proofs.SharedRest.{IsLeftBelow}
use Rattle.bohm_apply.proofs.shared_batch.unfinished.Given as goal

abbrev pub invariant-loop-distance : goal.invariant-loop-distance
invariant-loop-distance l = record {
  own : IsPassOf l.board l.pass;
  free : HoldsNothing (view l.pass);
  same : (view l.pass).finished ≡ (view l.initial.pass).finished;
  left : IsLeftBelow (batch_of l.board) (view l.pass) l.left.items l.distance;
  inside : All (IsIn (batch_of l.board)) l.left.items;
}
