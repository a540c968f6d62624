-- The encoding of statuses, outcomes and cells as the words of a board.
use Rattle.std.specs.Prelude.{ℕ, ℤ, zero, suc, ◌+◌, ◌*◌, ◌/◌, ◌%◌, Option, None, Some}
use Rattle.std.specs.Int.{cast_signed, w64}
use Rattle.bohm_types.specs.declared.cell.Cell.{Cell}
use Rattle.bohm_types.specs.declared.cell.Cell.TheVariants.{Present}
use Rattle.bohm_txn.specs.declared.outcome.Outcome.{Outcome}
use Rattle.bohm_txn.specs.declared.outcome.Outcome.TheVariants.{Commit, Abort}
use Rattle.bohm_txn.specs.declared.outcome.Reason.{Reason}
use Rattle.bohm_txn.specs.declared.outcome.Reason.TheVariants as reasons
use Rattle.bohm_board.specs.declared.status.Status.{Status}
use Rattle.bohm_board.specs.declared.status.Status.TheVariants.{Open, Busy, Done}
use Rattle.bohm_board.specs.declared.status.Claimed.{Claimed}
use Rattle.bohm_board.specs.declared.status.Claimed.TheVariants as claimed
use Rattle.bohm_board.specs.Core as core
use Rattle.bohm_board.specs.Views as views

-- ---- status words

-- 0 represents open, 1 busy, and every other word an outcome
abbrev pub status_of : ℕ → Status
status_of zero = Open
status_of (suc zero) = Busy
status_of (suc (suc n)) = Done

-- the status that an exchange found
abbrev pub status_of_claim : Claimed → Status
status_of_claim claimed.Mine = Open
status_of_claim claimed.Busy = Busy
status_of_claim claimed.Done = Done

-- the result of an exchange that found this word
abbrev pub claim_of_word : ℕ → Claimed
claim_of_word zero = claimed.Mine
claim_of_word (suc zero) = claimed.Busy
claim_of_word (suc (suc n)) = claimed.Done

-- above the number of every statement
abbrev pub above_stmts : ℕ
above_stmts = 1000

abbrev pub thousands_of : Reason → ℕ
thousands_of reasons.Need = 1
thousands_of reasons.Fail = 2
thousands_of reasons.Absent = 3
thousands_of reasons.Range = 4

-- the status word of an outcome
abbrev pub word_of : Outcome → ℕ
word_of Commit = 2
word_of (Abort reason stmt) = above_stmts * thousands_of reason + stmt

-- the statement at which the transaction aborted, or 0
abbrev pub stmt_of : Outcome → ℕ
stmt_of Commit = 0
stmt_of (Abort reason stmt) = stmt

-- the outcome of a status word, by its thousands and the rest
abbrev pub outcome_in : ℕ → ℕ → Outcome
outcome_in zero stmt = Commit
outcome_in (suc zero) stmt = Abort reasons.Need stmt
outcome_in (suc (suc zero)) stmt = Abort reasons.Fail stmt
outcome_in (suc (suc (suc zero))) stmt = Abort reasons.Absent stmt
outcome_in (suc (suc (suc (suc n)))) stmt = Abort reasons.Range stmt

abbrev pub outcome_at : ℕ → Outcome
outcome_at word = outcome_in (word / above_stmts) (word % above_stmts)

-- the status word of a position
abbrev pub progress_word : core.Progress → ℕ
progress_word core.Open = 0
progress_word (core.Claimed p) = 1
progress_word (core.Done o) = word_of o

-- ---- the words of a slot

-- 0 represents no cell, 1 `Absent` and 2 `Present`
abbrev pub presence_word : Option views.Presence → ℕ
presence_word None = 0
presence_word (Some views.Absent) = 1
presence_word (Some views.Present) = 2

abbrev pub presence_at : ℕ → Option views.Presence
presence_at zero = None
presence_at (suc zero) = Some views.Absent
presence_at (suc (suc n)) = Some views.Present

-- the presence word of a filled slot with this cell
abbrev pub filled_word : Cell → ℕ
filled_word c = presence_word (Some (views.presence_of c))

-- a value word has its value modulo 2 ^ 64
abbrev pub value_at : ℕ → ℤ
value_at word = cast_signed w64 word

-- the cell of a value word whose presence word is 2
abbrev pub present_at : ℕ → Cell
present_at word = Present (value_at word)
