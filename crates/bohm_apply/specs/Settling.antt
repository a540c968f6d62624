-- The replies of ranges of a finished batch's transactions, in whatever replies are appended to.
use Rattle.std.specs.Prelude.{ℕ, ◌+◌, take, drop}
use Rattle.bohm_board.specs.Batches.{first_of}
use Rattle.bohm_exec.specs.declared.finished.Finished.{Finished}
use Rattle.bohm_exec.specs.Answers.{batch_of_finished}
use Rattle.bohm_apply.specs.Replies.{Appended, replies_of}

-- appended to nothing, these are the replies of at most `count` transactions of the batch, from the one at an index on
abbrev pub IsShareFrom : {A : Type 0} → (A → Type 0) → Appended A → Finished → ℕ → ℕ → A → Type 0
IsShareFrom {A} bare appended f from count s = (start : A) × bare start
    × appended (first_of (batch_of_finished f) + from) start (take count (drop from (replies_of f))) s
