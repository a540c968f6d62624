use Rattle.std.proofs.Common.{ℕ, ◌<◌}
use Rattle.bohm_board.specs.Batches.{IsIn, position}
use Rattle.bohm_board.specs.Closings.{batch_of_closed, IsUnfinished}
use Rattle.bohm_exec.specs.Asides.{IsSetAside}
use Rattle.bohm_layer_trials.proofs.boards.assert_set_aside.Given as goal

abbrev pub invariant-loop-i : goal.invariant-loop-i
invariant-loop-i g l = (u : ℕ) → IsIn (batch_of_closed l.closed) u → position (batch_of_closed l.closed) u < l.i → IsUnfinished l.closed u
    → IsSetAside l.asides u
