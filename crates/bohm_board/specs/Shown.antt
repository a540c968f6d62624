-- How the words and views of a table show a state of the core, and the rule of a board's table.
use Rattle.std.specs.Prelude.{◌≡◌, ◌≢◌, ◌≤◌, ℕ, ◌+◌, List, ◌++◌, length, slice_index}
use Rattle.std.specs.List.{slice_index_or, slice_set}
use mathlib.Core.Option.{some}
use lib.ListN.{get_elem?}
use Rattle.atomic_table.specs.Table.{State as Table}
use Rattle.bohm_types.specs.declared.cell.Cell.{Cell}
use Rattle.bohm_board.specs.declared.batch.Batch.{Batch}
use Rattle.bohm_board.specs.declared.columns.Columns.{Columns}
use Rattle.bohm_board.specs.declared.slot.Slot.{Slot}
use Rattle.bohm_board.specs.declared.knowledge.Rights.{Rights}
use Rattle.bohm_board.specs.declared.knowledge.View.{View}
use Rattle.bohm_board.specs.Batches.{rights_of, position, number, IsIn, IsSlot, IsRightCell, IsRightOutcome}
use Rattle.bohm_board.specs.Core.{State}
use Rattle.bohm_board.specs.Events.{Event, IsAllowed, IsReached, next_state}
use Rattle.bohm_board.specs.Views.{new_view}
use Rattle.bohm_board.specs.Encoding.{progress_word, presence_word, filled_word, value_at, present_at, outcome_at}

-- a status word for each position, and a presence and a value word for each slot
pub record Words : Type 0 where
  pub statuses : List ℕ
  pub presences : List ℕ
  pub values : List ℕ

-- all words, in their order in a table
abbrev pub all_words : Words → List ℕ
all_words w = w.statuses ++ (w.presences ++ w.values)

abbrev pub words_of : Columns → Words
words_of c = record { statuses = c.statuses.items; presences = c.presences.items; values = c.values.items }

pub record IsSized (r : Rights) (w : Words) : Type 0 where
  pub statuses : length w.statuses ≡ length r.outcomes
  pub presences : length w.presences ≡ length r.slots
  pub values : length w.values ≡ length r.slots

-- each status word represents its position's progress, each presence word its slot's presence, and each value word its slot's value
pub record AreShown (b : Batch) (w : Words) (s : State) : Type 0 where
  pub sized : IsSized (rights_of b) w
  pub positions : (t : ℕ) → IsIn b t → slice_index w.statuses (position b t) ≡ progress_word (s.positions t)
  pub presences : (x : Slot) → IsSlot b x → slice_index w.presences (number b x) ≡ presence_word (s.presences x)
  pub values : (x : Slot) → IsSlot b x → value_at (slice_index w.values (number b x)) ≡ s.values x

-- the table shows the state: the view of each pass, by its number, and a new pass's view if there is no such pass yet
pub record Shows (b : Batch) (t : Table (Unit {0}) View) (s : State) : Type 0 where
  pub words : Words
  pub line : t.words ≡ all_words words
  pub shown : AreShown b words s
  pub views : (p : ℕ) → s.views p ≡ slice_index_or t.views p (new_view (rights_of b))

-- the rule: the words and views show a state that events of the core lead to from the empty board
pub record IsRuled (b : Batch) (t : Table (Unit {0}) View) : Type 0 where
  pub state : State
  pub shows : Shows b t state
  pub reached : IsReached b state

-- a table that shows a reached state, and a pass of the batch, which has this view
pub record IsBefore (b : Batch) (t : Table (Unit {0}) View) (s : State) (p : ℕ) (v : View) : Type 0 where
  pub shows : Shows b t s
  pub reached : IsReached b s
  pub view : get_elem? t.views p ≡ some v
  pub right : v.right ≡ rights_of b

-- the step from a table that shows the state to this one is the event: it is allowed, and the table shows the state after it
pub record IsStep (b : Batch) (s : State) (e : Event) (after : Table (Unit {0}) View) : Type 0 where
  pub allowed : IsAllowed b s e
  pub shows : Shows b after (next_state s e)

-- the table with n as word i, and v as the view of p
abbrev pub table_after_step : Table (Unit {0}) View → ℕ → ℕ → ℕ → View → Table (Unit {0}) View
table_after_step t i n p v = record { words = slice_set t.words i n; homes = t.homes; views = slice_set t.views p v }

-- the indices of a slot's words
abbrev pub presence_place : Batch → Slot → ℕ
presence_place b x = length (rights_of b).outcomes + number b x

abbrev pub value_place : Batch → Slot → ℕ
value_place b x = length (rights_of b).outcomes + (length (rights_of b).slots + number b x)

-- words copied from their table: each outcome and cell in them is right, and a position with an outcome has all its cells
pub record AreSound (b : Batch) (w : Words) : Type 0 where
  pub outcomes : (t : ℕ) → IsIn b t → 2 ≤ slice_index w.statuses (position b t) → IsRightOutcome b t (outcome_at (slice_index w.statuses (position b t)))
  pub presences : (x : Slot) (c : Cell) → IsSlot b x → IsRightCell b x c → slice_index w.presences (number b x) ≢ 0
      → slice_index w.presences (number b x) ≡ filled_word c
  pub values : (x : Slot) → IsSlot b x → slice_index w.presences (number b x) ≡ 2 → IsRightCell b x (present_at (slice_index w.values (number b x)))
  pub whole : (x : Slot) → IsSlot b x → 2 ≤ slice_index w.statuses (position b x.txn) → slice_index w.presences (number b x) ≢ 0
