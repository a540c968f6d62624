use Rattle.std.proofs.Common.{◌≡◌, ℕ, ◌<◌, ◌≤◌, ◌++◌, get_or, length, take, vec_len}
use Rattle.std.specs.Prelude.{All}
use Rattle.std.specs.Vec.{vec_capacity}
use Rattle.bohm_board.specs.Batches.{Leads}
use Rattle.bohm_board.specs.Passes.{Keeps, batch_of, view}
use Rattle.bohm_exec.specs.Asides.{IsAccountedFor, IsPickedFrom, positions_in, busy_in}
use Rattle.bohm_exec.specs.Counts.{AreCounted}
use Rattle.bohm_exec.specs.Steps.{IsEmptyFor, IsFree}
use Rattle.bohm_exec.proofs.sweeping.sweep.Given as goal

abbrev pub invariant-loop-start : goal.invariant-loop-start
invariant-loop-start g l = record {
  board : l.sweeper.stepper.board.now ≡ l.fn.board;
  pass : l.sweeper.stepper.pass.ghost_name ≡ l.initial.sweeper.stepper.pass.ghost_name;
  free : IsFree l.fn.board l.sweeper.stepper.pass.now;
  stack : IsEmptyFor (batch_of l.fn.board) l.sweeper.stack.now;
  space : length l.share ≤ vec_capacity l.pairs;
  count : vec_len l.pairs ≤ l.start-index;
  keeps : Keeps (view l.fn.pass) (view l.sweeper.stepper.pass.now);
  counted : AreCounted l.fn.evaluations (view l.fn.pass) l.sweeper.evaluator.evaluations (view l.sweeper.stepper.pass.now);
  leads : All (λ (p : ℕ × ℕ). Leads (batch_of l.fn.board) p.0 p.1) l.pairs.items;
  busy : (view l.sweeper.stepper.pass.now).busy ≡ (view l.fn.pass).busy ++ busy_in l.pairs.items;
  each : (i : ℕ) → i < l.start-index → IsAccountedFor (batch_of l.fn.board) (view l.sweeper.stepper.pass.now) l.pairs.items (get_or l.share i 0);
  order : IsPickedFrom (positions_in l.pairs.items) (take l.start-index l.share);
}
