use Rattle.bohm_board.specs.Closings.{batch_of_closed}
use Rattle.bohm_board.specs.Batches.{accesses_in}
use Rattle.bohm_exec.proofs.Seen.{FoundBelow}
use Rattle.bohm_exec.proofs.completion.take_cells.Given as goal

abbrev pub invariant-loop-index : goal.invariant-loop-index
invariant-loop-index l = FoundBelow (batch_of_closed l.closed) (accesses_in l.set (batch_of_closed l.closed) l.t) l.cells l.index
