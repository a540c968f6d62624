use Rattle.std.proofs.Common.{◌≡◌, ◌≤◌}
use Rattle.std.specs.Vec.{vec_capacity}
use Rattle.bohm_board.specs.Passes.{Keeps}
use Rattle.bohm_exec.specs.Counts.{AreCounted}
use Rattle.bohm_exec.specs.Steps.{IsFree, IsSame, batch_on, seen_by}
use Rattle.bohm_exec.proofs.Descents.{IsDescent, left_to_do}
use Rattle.bohm_exec.proofs.sweeper.Sweeper.pursue.Given as goal

abbrev pub invariant-descent : goal.invariant-descent
invariant-descent g l = record {
  same : IsSame l.fn.self.stepper l.self.stepper;
  free : IsFree l.fn.self.stepper.board.now l.self.stepper.pass.now;
  room : vec_capacity l.fn.self.stack.now ≤ vec_capacity l.self.stack.now;
  keeps : Keeps (seen_by l.fn.self.stepper) (seen_by l.self.stepper);
  counted : AreCounted l.fn.self.evaluator.evaluations (seen_by l.fn.self.stepper) l.self.evaluator.evaluations (seen_by l.self.stepper);
  busy : (seen_by l.self.stepper).busy ≡ (seen_by l.fn.self.stepper).busy;
  stack : IsDescent (batch_on l.fn.self.stepper) l.start (seen_by l.self.stepper).done l.self.stack.now.items;
}

abbrev pub decreases-descent : goal.decreases-descent
decreases-descent g l = left_to_do (batch_on l.fn.self.stepper) (seen_by l.self.stepper).done l.self.stack.now.items
