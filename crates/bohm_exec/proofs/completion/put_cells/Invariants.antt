use Rattle.std.proofs.Common.{◌≡◌, ℕ, ◌<◌}
use Rattle.bohm_board.specs.Closings.{batch_of_closed, status_in, unfinished_in, HasCell}
use Rattle.bohm_exec.specs.Handed.{slot_of}
use Rattle.bohm_exec.proofs.completion.put_cells.Given as goal

abbrev pub invariant-loop-index : goal.invariant-loop-index
invariant-loop-index l = record {
  batch : batch_of_closed l.closed ≡ batch_of_closed l.fn.closed;
  statuses : (u : ℕ) → status_in l.closed u ≡ status_in l.fn.closed u;
  left : unfinished_in l.closed ≡ unfinished_in l.fn.closed;
  all : (j : ℕ) → j < l.index → HasCell l.closed (slot_of l.t j);
}
