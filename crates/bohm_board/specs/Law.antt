-- The board law.
use Rattle.std.specs.Prelude.{◌≡◌, ◌≢◌, ◌⊎◌, ℕ, ◌+◌, ◌<◌, ◌≤◌, ◌==◌, List, Contains, Some, None, count_by}
use Rattle.bohm_types.specs.declared.cell.Cell.TheVariants as cells
use Rattle.bohm_txn.specs.declared.outcome.Outcome.{Outcome}
use Rattle.bohm_board.specs.declared.batch.Batch.{Batch}
use Rattle.bohm_board.specs.declared.slot.Slot.{Slot}
use Rattle.bohm_board.specs.declared.knowledge.View.{View}
use Rattle.bohm_board.specs.Batches.{IsIn, IsSlot, IsRightCell, IsRightOutcome, rights_of}
use Rattle.bohm_board.specs.Core.{Open, Claimed, Done, State, IsFull}
use Rattle.bohm_board.specs.Views.{Presence, Absent, Present, Holds, spent_view}

-- (a), (b) and (c): the contents of the board
pub record IsSound (b : Batch) (s : State) : Type 0 where
  -- each presence is that of the right cell, and so is the value, if the cell has one
  pub absent : (x : Slot) → s.presences x ≡ Some Absent → IsRightCell b x cells.Absent
  pub present : (x : Slot) → s.presences x ≡ Some Present → IsRightCell b x (cells.Present (s.values x))
  -- a Done position is one of the batch and has its right outcome, and all its slots are filled
  pub inside : (t : ℕ) (o : Outcome) → s.positions t ≡ Done o → IsIn b t
  pub outcomes : (t : ℕ) (o : Outcome) → s.positions t ≡ Done o → IsRightOutcome b t o
  pub whole : (x : Slot) (o : Outcome) → IsSlot b x → s.positions x.txn ≡ Done o → IsFull s x
  -- no slot of an Open position has a presence
  pub untouched : (x : Slot) → s.positions x.txn ≡ Open → s.presences x ≡ None

-- (d), (e) and (f): the view of the pass p is true
pub record IsTrueOf (b : Batch) (s : State) (p : ℕ) (v : View) : Type 0 where
  -- the position that it holds is claimed by it; slots that it filled are filled, and values that it stored are right
  pub held : (t : ℕ) → Holds b v t → s.positions t ≡ Claimed p
  pub filled : (x : Slot) → Contains v.filled x → IsFull s x
  pub stored : (x : Slot) → Contains v.stored x → IsRightCell b x (cells.Present (s.values x))
  -- positions that it saw Done are Done, and positions that it saw Busy aren't Open
  pub done : (t : ℕ) → Contains v.done t → (o : Outcome) × (s.positions t ≡ Done o)
  pub busy : (t : ℕ) → Contains v.busy t → s.positions t ≢ Open
  -- the presence that it knows of a slot is the slot's presence
  pub absent : (x : Slot) → Contains v.absent x → s.presences x ≡ Some Absent
  pub present : (x : Slot) → Contains v.present x → s.presences x ≡ Some Present
  -- it belongs to the batch, or to a pass that a join consumed
  pub named : (v ≡ spent_view) ⊎ (v.right ≡ rights_of b)

-- how often the position is in the list
abbrev pub times : ℕ → List ℕ → ℕ
times t xs = count_by (λ u. u == t) xs

-- (g): each position is finished once, by one pass
pub record IsFinishedOnce (s : State) : Type 0 where
  pub done : (p t : ℕ) → 0 < times t (s.views p).finished → (o : Outcome) × (s.positions t ≡ Done o)
  pub once : (p t : ℕ) → times t (s.views p).finished ≤ 1
  pub apart : (p q t : ℕ) → p ≢ q → times t (s.views p).finished + times t (s.views q).finished ≤ 1

-- a position is claimed by the pass that holds it, and by no other pass; so no two passes hold the same position
pub record IsLawful (b : Batch) (s : State) : Type 0 where
  pub sound : IsSound b s
  pub each : (p : ℕ) → IsTrueOf b s p (s.views p)
  pub held : (p t : ℕ) → s.positions t ≡ Claimed p → Holds b (s.views p) t

-- what never changes: presences, outcomes, and the values of slots that are `Present`
pub record Stays (s later : State) : Type 0 where
  pub presences : (x : Slot) (presence : Presence) → s.presences x ≡ Some presence → later.presences x ≡ Some presence
  pub outcomes : (t : ℕ) (o : Outcome) → s.positions t ≡ Done o → later.positions t ≡ Done o
  pub values : (x : Slot) → s.presences x ≡ Some Present → later.values x ≡ s.values x
