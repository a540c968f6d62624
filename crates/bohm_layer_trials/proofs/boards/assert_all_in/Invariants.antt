use Rattle.std.proofs.Common.{ℕ, ◌<◌, get_or}
use Rattle.bohm_board.specs.Batches.{IsIn}
use Rattle.bohm_layer_trials.proofs.boards.assert_all_in.Given as goal

abbrev pub invariant-loop-t : goal.invariant-loop-t
invariant-loop-t g l = (i : ℕ) → i < l.t-index → IsIn l.batch (get_or l.share i 0)
