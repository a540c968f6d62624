-- The events of a core: when each is allowed, and what it changes.
use Rattle.std.specs.Prelude.{◌≡◌, ◌≢◌, ℕ, ℤ, List, [], ◌∷◌, Contains, Bool, false, ◌&&◌, ◌==◌, if◌then◌else◌, Option, Some}
use Rattle.bohm_types.specs.declared.cell.Cell.{Cell}
use Rattle.bohm_types.specs.declared.cell.Cell.TheVariants as cells
use Rattle.bohm_txn.specs.declared.outcome.Outcome.{Outcome}
use Rattle.bohm_board.specs.declared.batch.Batch.{Batch}
use Rattle.bohm_board.specs.declared.slot.Slot.{Slot}
use Rattle.bohm_board.specs.declared.status.Status.{Status as Seen}
use Rattle.bohm_board.specs.declared.status.Status.TheVariants as seen
use Rattle.bohm_board.specs.declared.status.Claimed.{Claimed as Won}
use Rattle.bohm_board.specs.declared.status.Claimed.TheVariants as won
use Rattle.bohm_board.specs.declared.knowledge.View.{View}
use Rattle.bohm_board.specs.Batches.{IsIn, IsSlot, rights_of}
use Rattle.bohm_board.specs.Core.{Progress, Open, Claimed, Done, State, empty_state, outcome_over, cell_over}
use Rattle.bohm_board.specs.Views.{Presence, presence_of, new_view, spent_view, after_status, after_claim, after_presence_look, after_value_store}
use Rattle.bohm_board.specs.Views.{after_presence_store, after_finish, after_split, after_join, Holds, HoldsNothing, HasStored, KnowsWanted, HasFilledAll}
use Rattle.bohm_board.specs.Encoding.{status_of_claim}

-- an event of the pass p (and of q), with the answer or with the value that it stored
pub data Event : Type 0 where
  LookPresence : (p : ℕ) (x : Slot) (answer : Option Presence) → Event
  LookValue : (p : ℕ) (x : Slot) (answer : ℤ) → Event
  Status : (p t : ℕ) (answer : Seen) → Event
  Claim : (p t : ℕ) (answer : Won) → Event
  FillValue : (p : ℕ) (x : Slot) (value : ℤ) → Event
  FillPresence : (p : ℕ) (x : Slot) (cell : Cell) → Event
  Finish : (p t : ℕ) (outcome : Outcome) → Event
  Split : (p q : ℕ) → Event
  Join : (p q : ℕ) → Event

-- ---- when an event is allowed

abbrev pub status_of_progress : Progress → Seen
status_of_progress Open = seen.Open
status_of_progress (Claimed p) = seen.Busy
status_of_progress (Done o) = seen.Done

-- the pass may fill the slot, and this is its cell
pub record MayFill (b : Batch) (s : State) (p : ℕ) (x : Slot) (c : Cell) : Type 0 where
  pub slot : IsSlot b x
  pub holds : Holds b (s.views p) x.txn
  pub unfilled : ¬ Contains (s.views p).filled x
  pub wanted : KnowsWanted b (s.views p) x.txn
  pub cell : cell_over b s x ≡ Some c

-- the pass may finish the position, and this is its outcome
pub record MayFinish (b : Batch) (s : State) (p t : ℕ) (o : Outcome) : Type 0 where
  pub position : IsIn b t
  pub holds : Holds b (s.views p) t
  pub filled : HasFilledAll b (s.views p) t
  pub wanted : KnowsWanted b (s.views p) t
  pub outcome : outcome_over b s t ≡ Some o

-- the pass belongs to this batch: a pass that a join consumed takes no further step
abbrev pub IsOf : Batch → State → ℕ → Type 0
IsOf b s p = (s.views p).right ≡ rights_of b

-- a fill or a finish requires that the pass holds the position and knows what it wants; a split makes the new pass q, and a join appends what q observed
abbrev pub IsAllowed : Batch → State → Event → Type 0
IsAllowed b s (LookPresence p x answer) = IsOf b s p × IsSlot b x × (answer ≡ s.presences x)
IsAllowed b s (LookValue p x answer) = IsOf b s p × Contains (s.views p).present x × (answer ≡ s.values x)
IsAllowed b s (Status p t answer) = IsOf b s p × IsIn b t × ¬ Holds b (s.views p) t × (answer ≡ status_of_progress (s.positions t))
IsAllowed b s (Claim p t answer) = IsOf b s p × IsIn b t × HoldsNothing (s.views p) × (status_of_claim answer ≡ status_of_progress (s.positions t))
IsAllowed b s (FillValue p x z) = IsOf b s p × MayFill b s p x (cells.Present z) × ¬ Contains (s.views p).stored x
IsAllowed b s (FillPresence p x c) = IsOf b s p × MayFill b s p x c × HasStored (s.views p) x c
IsAllowed b s (Finish p t o) = IsOf b s p × MayFinish b s p t o
IsAllowed b s (Split p q) = IsOf b s p × HoldsNothing (s.views p) × (s.views q ≡ new_view (rights_of b))
IsAllowed b s (Join p q) = IsOf b s p × (q ≢ p) × HoldsNothing (s.views p) × HoldsNothing (s.views q)

-- ---- what an event changes

-- the function with its value at t replaced
abbrev pub point_update : {A : Type 0} → (ℕ → A) → ℕ → A → ℕ → A
point_update f t a = λ u. if u == t then a else f u

abbrev pub is_slot : Slot → Slot → Bool
is_slot x y = (y.txn == x.txn) && (y.index == x.index)

-- the function with its value at the slot x replaced
abbrev pub slot_update : {A : Type 0} → (Slot → A) → Slot → A → Slot → A
slot_update f x a = λ y. if is_slot x y then a else f y

-- the words are unchanged, and the view of p becomes v
abbrev pub with_view : State → ℕ → View → State
with_view s p v = record s { views = point_update s.views p v }

-- a claim that doesn't win has the effect of a status read
abbrev pub next_state : State → Event → State
next_state s (LookPresence p x answer) = with_view s p (after_presence_look (s.views p) x answer)
next_state s (LookValue p x answer) = s
next_state s (Status p t answer) = with_view s p (after_status (s.views p) t answer)
next_state s (Claim p t won.Mine) = record s {
  positions = point_update s.positions t (Claimed p);
  views = point_update s.views p (after_claim (s.views p) t seen.Open);
}
next_state s (Claim p t won.Busy) = with_view s p (after_claim (s.views p) t seen.Busy)
next_state s (Claim p t won.Done) = with_view s p (after_claim (s.views p) t seen.Done)
next_state s (FillValue p x z) = record s { values = slot_update s.values x z; views = point_update s.views p (after_value_store (s.views p) x) }
next_state s (FillPresence p x c) = record s {
  presences = slot_update s.presences x (Some (presence_of c));
  views = point_update s.views p (after_presence_store (s.views p) x);
}
next_state s (Finish p t o) = record s { positions = point_update s.positions t (Done o); views = point_update s.views p (after_finish (s.views p) t) }
next_state s (Split p q) = with_view s q (after_split (s.views p))
next_state s (Join p q) = with_view (with_view s p (after_join (s.views p) (s.views q))) q spent_view

-- ---- lists of events

-- each event is allowed in the state after the events before it
abbrev pub IsRun : Batch → State → List Event → Type 0
IsRun b s [] = Unit {0}
IsRun b s (e ∷ es) = IsAllowed b s e × IsRun b (next_state s e) es

-- the state after the events
abbrev pub final_state : State → List Event → State
final_state s [] = s
final_state s (e ∷ es) = final_state (next_state s e) es

-- events lead from the empty board to the state
abbrev pub IsReached : Batch → State → Type 0
IsReached b s = (es : List Event) × IsRun b (empty_state b) es × (final_state (empty_state b) es ≡ s)

-- a claim of t that returns Mine
abbrev pub is_win : ℕ → Event → Bool
is_win t (Claim p u won.Mine) = u == t
is_win t _ = false

abbrev pub is_finish : ℕ → Event → Bool
is_finish t (Finish p u o) = u == t
is_finish t _ = false
