-- The core: the contents of a batch's board and what its passes know, without words, steps and threads.
use Rattle.std.specs.Prelude.{◌≡◌, ℕ, ℤ, pos, List, ◌++◌, map, zip, Contains, Option, None, Some, slice_get}
use Rattle.std.specs.Option.{option_map}
use Rattle.bohm_types.specs.declared.cell.Cell.{Cell}
use Rattle.bohm_types.specs.declared.cell.Cell.TheVariants as cells
use Rattle.bohm_types.specs.Txn.{Txn}
use Rattle.bohm_txn.specs.declared.outcome.Outcome.{Outcome}
use Rattle.bohm_txn.specs.Meaning.{Look, newest, body, ◌>>=◌}
use Rattle.bohm_txn.specs.Serial.{outcome_of}
use Rattle.bohm_place.specs.declared.access.Access.{Access}
use Rattle.bohm_place.specs.declared.access.Source.{Source}
use Rattle.bohm_place.specs.declared.access.Source.TheVariants.{Before, Within}
use Rattle.bohm_board.specs.declared.batch.Batch.{Batch}
use Rattle.bohm_board.specs.declared.slot.Slot.{Slot}
use Rattle.bohm_board.specs.declared.knowledge.View.{View}
use Rattle.bohm_board.specs.Serial.{own_cells}
use Rattle.bohm_board.specs.Batches.{base_of, rights_of, txn_at, reads_at, writes_at, wanted_at, slot_in}
use Rattle.bohm_board.specs.Views.{Presence, Absent, Present, new_view}

-- ---- states

-- the progress of a position: open, claimed by this pass, or done with this outcome
pub data Progress : Type 0 where
  Open : Progress
  Claimed : (pass : ℕ) → Progress
  Done : (outcome : Outcome) → Progress

-- positions by timestamp, and passes by number
pub record State : Type 0 where
  pub positions : ℕ → Progress
  pub presences : Slot → Option Presence
  pub values : Slot → ℤ
  pub views : ℕ → View

-- the empty board
abbrev pub empty_state : Batch → State
empty_state b = record { positions = λ t. Open; presences = λ x. None; values = λ x. pos 0; views = λ p. new_view (rights_of b) }

abbrev pub IsFull : State → Slot → Type 0
IsFull s x = (presence : Presence) × (s.presences x ≡ Some presence)

-- each slot that the position wants is filled
abbrev pub HasWanted : Batch → State → ℕ → Type 0
HasWanted b s t = (a : Access) (u : ℕ) → Contains (wanted_at b t) a → a.source ≡ Within u → IsFull s (slot_in u a)

-- ---- Input(t), and what the transaction does over it

-- the cell of a slot: absent if it isn't filled
abbrev pub cell_by : Option Presence → ℤ → Cell
cell_by None z = cells.Absent
cell_by (Some Absent) z = cells.Absent
cell_by (Some Present) z = cells.Present z

abbrev pub cell_in : State → Slot → Cell
cell_in s x = cell_by (s.presences x) (s.values x)

-- the key's cell by its source: the base's cell, or the cell of the slot of u at this index
abbrev pub cell_from : Batch → State → List ℕ → ℕ → Source → Cell
cell_from b s k index Before = base_of b k
cell_from b s k index (Within u) = cell_in s (record { txn = u; index = index })

abbrev pub cell_at : Batch → State → List ℕ → Access → Cell
cell_at b s k a = cell_from b s k a.index a.source

-- these keys, each with its cell by its access
abbrev pub entries : Batch → State → List (List ℕ) → List Access → List (List ℕ × Cell)
entries b s keys accesses = map (λ e. (e.0, cell_at b s e.0 e.1)) (zip keys accesses)

-- Input(t), of the transaction with the timestamp t: for each declared key the cell by its access
abbrev pub input : Batch → State → ℕ → Txn → Look
input b s t txn = λ k. newest (entries b s txn.reads (reads_at b t) ++ entries b s txn.writes (writes_at b t)) k cells.Absent

-- the outcome of Body(t, Input(t))
abbrev pub outcome_over : Batch → State → ℕ → Option Outcome
outcome_over b s t = option_map (λ txn. outcome_of (body (input b s t txn) txn)) (txn_at b t)

-- the cell for a slot of t: for a write, its key's cell in After(Input(t), t); for a `show`, its value in Reply(Input(t), t), or absence on an abort
abbrev pub cell_over : Batch → State → Slot → Option Cell
cell_over b s x = txn_at b x.txn >>= λ txn. slice_get (own_cells (input b s x.txn txn) txn) x.index
