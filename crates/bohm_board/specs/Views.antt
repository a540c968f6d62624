-- What passes know, and how their views change.
use Rattle.std.specs.Prelude.{◌≡◌, ◌≢◌, ℕ, ◌+◌, ◌<◌, ◌^◌, List, [], ◌∷◌, ◌++◌, Contains, Option, None, Some}
use Rattle.std.specs.Option.{option_map}
use Rattle.bohm_types.specs.declared.cell.Cell.{Cell}
use Rattle.bohm_types.specs.declared.cell.Cell.TheVariants as cells
use Rattle.bohm_place.specs.declared.access.Access.{Access}
use Rattle.bohm_place.specs.declared.access.Source.TheVariants.{Within}
use Rattle.bohm_board.specs.declared.batch.Batch.{Batch}
use Rattle.bohm_board.specs.declared.slot.Slot.{Slot}
use Rattle.bohm_board.specs.declared.status.Status.{Status}
use Rattle.bohm_board.specs.declared.status.Status.TheVariants.{Open, Busy, Done}
use Rattle.bohm_board.specs.declared.knowledge.Rights.{Rights}
use Rattle.bohm_board.specs.declared.knowledge.View.{View}
use Rattle.bohm_board.specs.Batches.{wanted_at, slot_in, width_at}

-- the content of a filled slot
pub data Presence : Type 0 where
  Absent : Presence
  Present : Presence

abbrev pub presence_of : Cell → Presence
presence_of cells.Absent = Absent
presence_of (cells.Present z) = Present

-- it knows the right outcomes and cells of its batch, and nothing else
abbrev pub new_view : Rights → View
new_view r = record { right = r; done = []; finished = []; busy = []; absent = []; present = []; held = None; stored = []; filled = [] }

-- the view of a pass that a join consumed
abbrev pub spent_view : View
spent_view = new_view (record { first = 0; outcomes = []; slots = [] })

-- ---- what steps change

abbrev pub after_status : View → ℕ → Status → View
after_status v t Open = v
after_status v t Busy = record v { busy = v.busy ++ t ∷ [] }
after_status v t Done = record v { done = v.done ++ t ∷ [] }

-- an open position is claimed; the status of any other position was seen
abbrev pub after_claim : View → ℕ → Status → View
after_claim v t Open = record v { held = Some t; stored = []; filled = [] }
after_claim v t Busy = after_status v t Busy
after_claim v t Done = after_status v t Done

-- an empty slot changes nothing, since it may be filled later
abbrev pub after_presence_look : View → Slot → Option Presence → View
after_presence_look v x None = v
after_presence_look v x (Some Absent) = record v { absent = v.absent ++ x ∷ [] }
after_presence_look v x (Some Present) = record v { present = v.present ++ x ∷ [] }

-- after a look with this answer
abbrev pub after_look : View → Slot → Option Cell → View
after_look v x answer = after_presence_look v x (option_map presence_of answer)

abbrev pub after_value_store : View → Slot → View
after_value_store v x = record v { stored = v.stored ++ x ∷ [] }

abbrev pub after_presence_store : View → Slot → View
after_presence_store v x = record v { filled = v.filled ++ x ∷ [] }

-- after a fill: a value is stored first
abbrev pub after_fill : View → Slot → Cell → View
after_fill v x cells.Absent = after_presence_store v x
after_fill v x (cells.Present z) = after_presence_store (after_value_store v x) x

abbrev pub after_finish : View → ℕ → View
after_finish v t = record v { done = v.done ++ t ∷ []; finished = v.finished ++ t ∷ []; held = None; stored = []; filled = [] }

-- the new pass of a split knows what the old one knew, and has finished nothing
abbrev pub after_split : View → View
after_split v = record v { finished = [] }

-- the join of passes that hold nothing
abbrev pub after_join : View → View → View
after_join v w = record v {
  done = v.done ++ w.done;
  finished = v.finished ++ w.finished;
  busy = v.busy ++ w.busy;
  absent = v.absent ++ w.absent;
  present = v.present ++ w.present;
}

-- ---- positions, by their timestamps

-- the pass saw the position Done
abbrev pub IsDone : Batch → View → ℕ → Type 0
IsDone b v t = Contains v.done t

-- the pass saw the position Busy
abbrev pub IsBusy : Batch → View → ℕ → Type 0
IsBusy b v t = Contains v.busy t

abbrev pub Holds : Batch → View → ℕ → Type 0
Holds b v t = v.held ≡ Some t

abbrev pub HoldsNothing : View → Type 0
HoldsNothing v = v.held ≡ None

-- ---- slots

-- the slot was seen filled
abbrev pub Knows : View → Slot → Type 0
Knows v x = Contains (v.absent ++ v.present) x

abbrev pub IsKnown : Batch → View → Slot → Type 0
IsKnown b v x = Knows v x

-- the pass filled the slot, of the position that it holds
abbrev pub IsFilled : Batch → View → Slot → Type 0
IsFilled b v x = Contains v.filled x

-- the value of the cell was stored, if it has one
abbrev pub HasStored : View → Slot → Cell → Type 0
HasStored v x cells.Absent = Unit {0}
HasStored v x (cells.Present z) = Contains v.stored x

-- each slot that the position wants was seen filled
abbrev pub KnowsWanted : Batch → View → ℕ → Type 0
KnowsWanted b v t = (a : Access) (u : ℕ) → Contains (wanted_at b t) a → a.source ≡ Within u → IsKnown b v (slot_in u a)

-- all slots of the position are filled
abbrev pub HasFilledAll : Batch → View → ℕ → Type 0
HasFilledAll b v t = (j : ℕ) → j < width_at b t → IsFilled b v (record { txn = t; index = j })

-- nothing that the pass saw or did says that the slot is filled
pub record IsUnseen (v : View) (x : Slot) : Type 0 where
  pub known : ¬ Knows v x
  pub filled : ¬ Contains v.filled x
  pub done : ¬ Contains v.done x.txn

-- a position that was seen Done stays Done, and a position that was seen Busy is never Open again
pub record Recalls (v : View) (t : ℕ) (status : Status) : Type 0 where
  pub done : Contains v.done t → status ≡ Done
  pub busy : Contains v.busy t → status ≢ Open

-- ---- from one view to a later one

-- the second list continues the first
abbrev pub Continues : {A : Type 0} → List A → List A → Type 0
Continues {A} old new = (more : List A) × (new ≡ old ++ more)

-- everything that was observed remains observed
pub record Keeps (old new : View) : Type 0 where
  pub right : new.right ≡ old.right
  pub done : Continues old.done new.done
  pub busy : Continues old.busy new.busy
  pub absent : Continues old.absent new.absent
  pub present : Continues old.present new.present

-- the invariant of a pass and its view: it holds this position, with its timestamp, and has stored the values of only those slots that it has filled
pub record IsKept (v : View) (first : ℕ) (held : Option ℕ) : Type 0 where
  pub holds : v.held ≡ option_map (λ i. first + i) held
  pub timestamp : (i : ℕ) → held ≡ Some i → first + i < 2 ^ 32
  pub whole : (x : Slot) → ¬ Contains v.filled x → ¬ Contains v.stored x
