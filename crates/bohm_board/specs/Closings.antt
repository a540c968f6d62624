-- The contents of a closed board.
use Rattle.std.specs.Prelude.{◌≡◌, ◌≢◌, ℕ, ◌<◌, ◌≤◌, slice_index, count_by, nat_lt}
use Rattle.bohm_board.specs.declared.batch.Batch.{Batch}
use Rattle.bohm_board.specs.declared.closed.Closed.{Closed}
use Rattle.bohm_board.specs.declared.slot.Slot.{Slot}
use Rattle.bohm_board.specs.Batches.{position, number}
use Rattle.bohm_board.specs.Core.{State}
use Rattle.bohm_board.specs.Events.{IsReached}
use Rattle.bohm_board.specs.Law.{IsLawful}
use Rattle.bohm_board.specs.Shown.{AreShown, words_of}

abbrev pub batch_of_closed : Closed → Batch
batch_of_closed c = c.batch

abbrev pub status_in : Closed → ℕ → ℕ
status_in c t = slice_index c.columns.statuses.items (position (batch_of_closed c) t)

abbrev pub presence_in : Closed → Slot → ℕ
presence_in c s = slice_index c.columns.presences.items (number (batch_of_closed c) s)

-- its words show a state that events of the core lead to, and that meets the board law
pub record IsLeft (c : Closed) : Type 0 where
  pub state : State
  pub shown : AreShown (batch_of_closed c) (words_of c.columns) state
  pub reached : IsReached (batch_of_closed c) state
  pub lawful : IsLawful (batch_of_closed c) state

-- the position has an outcome
abbrev pub IsFinished : Closed → ℕ → Type 0
IsFinished c t = 2 ≤ status_in c t

-- the position has no outcome
abbrev pub IsUnfinished : Closed → ℕ → Type 0
IsUnfinished c t = status_in c t < 2

-- no pass claimed the position
abbrev pub IsUntaken : Closed → ℕ → Type 0
IsUntaken c t = status_in c t ≡ 0

-- the slot has a cell
abbrev pub HasCell : Closed → Slot → Type 0
HasCell c s = presence_in c s ≢ 0

-- the number of positions without an outcome
abbrev pub unfinished_in : Closed → ℕ
unfinished_in c = count_by (λ word. nat_lt word 2) c.columns.statuses.items
