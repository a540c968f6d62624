-- The batch of an answer, and the progress of a closed board.
use Rattle.std.specs.Prelude.{ℕ, ◌<◌}
use Rattle.bohm_board.specs.declared.batch.Batch.{Batch}
use Rattle.bohm_board.specs.declared.closed.Closed.{Closed}
use Rattle.bohm_board.specs.Batches.{IsIn}
use Rattle.bohm_board.specs.Closings.{batch_of_closed, IsFinished}
use Rattle.bohm_exec.specs.declared.finished.Finished.{Finished}

abbrev pub batch_of_finished : Finished → Batch
batch_of_finished f = batch_of_closed f.closed

-- how many evaluations the batch took, by all workers together
abbrev pub evaluations_of : Finished → ℕ
evaluations_of f = f.evaluations

-- all positions before this one have their outcomes and cells
abbrev pub IsFinishedBefore : Closed → ℕ → Type 0
IsFinishedBefore closed t = (u : ℕ) → IsIn (batch_of_closed closed) u → u < t → IsFinished closed u
