use Rattle.std.proofs.Common.{◌≡◌, Some, take}
use Rattle.bohm_types.specs.Txn.{Txn}
use Rattle.bohm_txn.specs.Meaning.{body}
use Rattle.bohm_txn.specs.Serial.{shows_of}
use Rattle.bohm_board.specs.Batches.{txn_at}
use Rattle.bohm_exec.specs.Answers.{batch_of_finished}
use Rattle.bohm_exec.specs.Moments.{state_before}
use Rattle.bohm_apply.proofs.replies.values_shown.Given as goal

-- the values so far are the first ones that the transaction shows in the serial run
abbrev pub invariant-loop-index : goal.invariant-loop-index
invariant-loop-index l = (x : Txn) → txn_at (batch_of_finished l.finished) l.t ≡ Some x
    → l.values.items ≡ take l.index (shows_of (body (state_before (batch_of_finished l.finished) l.t) x))
