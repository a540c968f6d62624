use Rattle.std.proofs.Common.{◌≡◌, ℕ, ◌+◌, ◌<◌}
use Rattle.bohm_board.specs.Batches.{IsIn, position}
use Rattle.bohm_board.specs.Closings.{batch_of_closed, unfinished_in, IsFinished}
use Rattle.bohm_exec.proofs.completion.complete.Given as goal

abbrev pub invariant-loop-distance : goal.invariant-loop-distance
invariant-loop-distance l = record {
  batch : batch_of_closed l.closed ≡ batch_of_closed l.fn.closed;
  counted : l.evaluator.evaluations + unfinished_in l.closed ≡ l.fn.evaluations + unfinished_in l.fn.closed;
  finished : (u : ℕ) → IsIn (batch_of_closed l.closed) u → position (batch_of_closed l.closed) u < l.distance → IsFinished l.closed u;
}
