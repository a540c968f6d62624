-- What a pass learns from each of its atomic steps.
use Rattle.std.specs.Prelude.{◌≡◌, ◌≢◌, ℕ, ◌+◌, length, Contains, Some}
use Rattle.atomic_table.specs.Table.{Me, Step}
use Rattle.bohm_types.specs.declared.cell.Cell.{Cell}
use Rattle.bohm_board.specs.declared.batch.Batch.{Batch}
use Rattle.bohm_board.specs.declared.slot.Slot.{Slot}
use Rattle.bohm_board.specs.declared.knowledge.View.{View}
use Rattle.bohm_board.specs.Batches.{right_cell, slot_numbered, timestamp}
use Rattle.bohm_board.specs.Views.{after_status, after_claim, after_presence_look, after_value_store}
use Rattle.bohm_board.specs.Views.{after_presence_store, after_finish, Holds, KnowsWanted, Recalls, IsUnseen}
use Rattle.bohm_board.specs.Encoding.{status_of, presence_at, filled_word, present_at}

abbrev pub SeatState : Type 0
SeatState = Me (Unit {0}) View

-- the right outcomes and cells are unchanged, and so is the held position
abbrev pub IsSteady : SeatState → SeatState → Type 0
IsSteady m m' = (m'.1 ≡ m.1) × (m'.0.right ≡ m.0.right) × (m'.0.held ≡ m.0.held)

abbrev pub MeetsStatus : Step (Unit {0}) → SeatState → ℕ → SeatState → Type 0
MeetsStatus st m found m' = (m'.1 ≡ m.1) × (m'.0 ≡ after_status m.0 (timestamp m.0.right st.word) (status_of found))
    × Recalls m.0 (timestamp m.0.right st.word) (status_of found)

abbrev pub MeetsClaim : Step (Unit {0}) → SeatState → ℕ → SeatState → Type 0
MeetsClaim st m found m' = (m'.1 ≡ m.1) × (m'.0 ≡ after_claim m.0 (timestamp m.0.right st.word) (status_of found))
    × Recalls m.0 (timestamp m.0.right st.word) (status_of found)

abbrev pub MeetsFinish : Step (Unit {0}) → SeatState → ℕ → SeatState → Type 0
MeetsFinish st m put m' = (m'.1 ≡ m.1) × (m'.0 ≡ after_finish m.0 (timestamp m.0.right st.word))

-- what a pass learns from the presence word of slot k
pub record SeesPresence (m : SeatState) (k found : ℕ) (m' : SeatState) : Type 0 where
  pub view : m'.0 ≡ after_presence_look m.0 (slot_numbered m.0.right k) (presence_at found)
  pub empty : found ≡ 0 → IsUnseen m.0 (slot_numbered m.0.right k)
  pub right : found ≢ 0 → (c : Cell) → right_cell m.0.right k ≡ Some c → found ≡ filled_word c

abbrev pub MeetsPresence : Step (Unit {0}) → SeatState → ℕ → SeatState → Type 0
MeetsPresence st m found m' = IsSteady m m' × ((k : ℕ) → st.word ≡ length m.0.right.outcomes + k → SeesPresence m k found m')

-- what a pass learns from the value word of slot k
abbrev pub MeetsValue : Step (Unit {0}) → SeatState → ℕ → SeatState → Type 0
MeetsValue st m found m' = (m' ≡ m) × ((k : ℕ) → st.word ≡ length m.0.right.outcomes + (length m.0.right.slots + k)
    → right_cell m.0.right k ≡ Some (present_at found))

abbrev pub MeetsStore : Step (Unit {0}) → SeatState → ℕ → SeatState → Type 0
MeetsStore st m put m' = IsSteady m m' × ((k : ℕ) → st.word ≡ length m.0.right.outcomes + (length m.0.right.slots + k)
    → m'.0 ≡ after_value_store m.0 (slot_numbered m.0.right k))

abbrev pub MeetsFill : Step (Unit {0}) → SeatState → ℕ → SeatState → Type 0
MeetsFill st m put m' = IsSteady m m' × ((k : ℕ) → st.word ≡ length m.0.right.outcomes + k → m'.0 ≡ after_presence_store m.0 (slot_numbered m.0.right k))

-- the pass holds the slot's position, knows the slots that the position wants, and hasn't filled the slot
pub record IsFillable (b : Batch) (v : View) (x : Slot) : Type 0 where
  pub holds : Holds b v x.txn
  pub wanted : KnowsWanted b v x.txn
  pub unfilled : ¬ Contains v.filled x
