-- The cells that a position is evaluated over, and the results of its evaluation.
use Rattle.std.specs.Prelude.{◌≡◌, ℕ, ◌-◌, ◌<◌, List, length, Contains, Option, None, Some, slice_get, unwrap_or, false}
use Rattle.bohm_types.specs.declared.cell.Cell.{Cell}
use Rattle.bohm_txn.specs.Results.{Results}
use Rattle.bohm_place.specs.declared.access.Access.{Access}
use Rattle.bohm_place.specs.declared.access.Source.{Source}
use Rattle.bohm_place.specs.declared.access.Source.TheVariants.{Before, Within}
use Rattle.bohm_place.specs.declared.declared_set.DeclaredSet.{DeclaredSet}
use Rattle.bohm_board.specs.declared.batch.Batch.{Batch}
use Rattle.bohm_board.specs.declared.slot.Slot.{Slot}
use Rattle.bohm_board.specs.declared.knowledge.View.{View}
use Rattle.bohm_board.specs.Batches.{accesses_in, IsRightCell, is_sure_at, reads_at, writes_at, slot_in, wanted_at, width_at}
use Rattle.bohm_board.specs.Passes.{IsKnown}
use Rattle.bohm_exec.specs.Moments.{shown}
use Rattle.bohm_exec.specs.declared.evaluation.Evaluator.{Evaluator}

abbrev pub slot_of : ℕ → ℕ → Slot
slot_of t j = record { txn = t; index = j }

-- the slot of the version that an access takes, if the batch makes that version
abbrev pub slot_from : Source → ℕ → Option Slot
slot_from Before j = None
slot_from (Within u) j = Some (slot_of u j)

-- the slot of the version that the access at this index takes, if the batch makes that version
pub record TakesSlot (accesses : List Access) (j : ℕ) (slot : Option Slot) : Type 0 where
  pub access : Access
  pub at : slice_get accesses j ≡ Some access
  pub taken : slot ≡ slot_from access.source access.index

-- a position wants the versions of a declared set's accesses
abbrev pub WantsAllOf : Batch → ℕ → DeclaredSet → Type 0
WantsAllOf b t set = (a : Access) → Contains (accesses_in set b t) a → Contains (wanted_at b t) a

-- each of these versions that the batch makes was seen filled
abbrev pub KnowsAll : Batch → View → List Access → Type 0
KnowsAll b v accesses = (a : Access) (u : ℕ) → Contains accesses a → a.source ≡ Within u
    → IsKnown b v (slot_in u a)

-- each cell whose version the batch makes is right
abbrev pub AreFound : Batch → List Access → List Cell → Type 0
AreFound b accesses cells = (j : ℕ) (a : Access) (u : ℕ) (c : Cell) → slice_get accesses j ≡ Some a
    → a.source ≡ Within u → slice_get cells j ≡ Some c → IsRightCell b (slot_in u a) c

-- the cells of the versions that t wants are right, at their indices
pub record IsReady (b : Batch) (t : ℕ) (e : Evaluator) : Type 0 where
  pub reads : AreFound b (reads_at b t) e.reads
  pub sure : e.sure ≡ is_sure_at b t
  pub earlier : is_sure_at b t ≡ false → AreFound b (writes_at b t) e.earlier

-- the cell of slot j: first the declared writes, then the shown values
abbrev pub slot_cell : Results → ℕ → Cell
slot_cell r j = unwrap_or (slice_get r.cells j) (shown r.shows (j - length r.cells))

-- the cells of all slots of t are right
abbrev pub AreRightSlots : Batch → ℕ → Results → Type 0
AreRightSlots b t r = (j : ℕ) → j < width_at b t → IsRightCell b (slot_of t j) (slot_cell r j)
