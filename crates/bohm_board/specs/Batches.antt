-- Batches: positions, slots, right outcomes and cells, and what a position wants.
use Rattle.std.specs.Prelude.{◌≡◌, ℕ, ◌+◌, ◌-◌, ◌<◌, ◌≤◌, List, [], ◌++◌, length, Contains, Bool, false, Option, Some, slice_get, unwrap_or, if◌then◌else◌}
use Rattle.std.specs.Option.{option_map}
use Rattle.bohm_types.specs.declared.cell.Cell.{Cell}
use Rattle.bohm_types.specs.Document.{Document}
use Rattle.bohm_types.specs.Txn.{Txn}
use Rattle.bohm_txn.specs.declared.outcome.Outcome.{Outcome}
use Rattle.bohm_txn.specs.Meaning.{Look}
use Rattle.bohm_txn.specs.Sure.{is_sure}
use Rattle.bohm_place.specs.declared.access.Access.{Access}
use Rattle.bohm_place.specs.declared.access.Source.TheVariants.{Within}
use Rattle.bohm_place.specs.declared.declared_set.DeclaredSet.{DeclaredSet}
use Rattle.bohm_place.specs.Slots.{width, offset}
use Rattle.bohm_place.specs.Plans.{Planned, keys_in, planned_in, reads_of, writes_of}
use Rattle.bohm_board.specs.Bases.{cells_of, txns_in}
use Rattle.bohm_board.specs.declared.batch.Batch.{Batch}
use Rattle.bohm_board.specs.declared.slot.Slot.{Slot}
use Rattle.bohm_board.specs.declared.transactions.Transactions.TheVariants.{Own}
use Rattle.bohm_board.specs.declared.knowledge.Rights.{Rights}
use Rattle.bohm_board.specs.Serial.{slots_from, outcomes}

abbrev pub txns_of : Batch → List Txn
txns_of b = txns_in b.txns

-- the batch owns the document whose transactions it has
abbrev pub Owns : Batch → Document → Type 0
Owns b document = b.txns ≡ Own document

abbrev pub plan_of : Batch → Planned
plan_of b = b.plan

-- the timestamp of the first transaction
abbrev pub first_of : Batch → ℕ
first_of b = b.plan.first

-- the cell of each key before the batch
abbrev pub base_of : Batch → Look
base_of b = cells_of b.base

-- ---- positions and slots

-- the position of a timestamp, counted from the batch's first
abbrev pub position : Batch → ℕ → ℕ
position b t = t - first_of b

-- a transaction of the batch has the timestamp
pub record IsIn (b : Batch) (t : ℕ) : Type 0 where
  pub from : first_of b ≤ t
  pub below : t < first_of b + length (txns_of b)

abbrev pub txn_at : Batch → ℕ → Option Txn
txn_at b t = slice_get (txns_of b) (position b t)

-- the number of slots of the transaction with the timestamp
abbrev pub width_at : Batch → ℕ → ℕ
width_at b t = unwrap_or (option_map width (txn_at b t)) 0

pub record IsSlot (b : Batch) (s : Slot) : Type 0 where
  pub txn : IsIn b s.txn
  pub index : s.index < width_at b s.txn

-- the number of a slot among all slots of the batch, counted from 0
abbrev pub number : Batch → Slot → ℕ
number b s = offset (txns_of b) (position b s.txn) + s.index

-- ---- right outcomes and cells

-- the outcomes and cells of the serial run over the base
unfoldable pub rights_of : Batch → Rights
rights_of b = record { first = first_of b; outcomes = outcomes (base_of b) (txns_of b); slots = slots_from (first_of b) (base_of b) (txns_of b) }

abbrev pub right_cell : Rights → ℕ → Option Cell
right_cell r k = option_map (λ x. x.cell) (slice_get r.slots k)

-- the timestamp of a position
abbrev pub timestamp : Rights → ℕ → ℕ
timestamp r i = r.first + i

-- the slot with a number
abbrev pub slot_numbered : Rights → ℕ → Slot
slot_numbered r k = unwrap_or (option_map (λ x. x.slot) (slice_get r.slots k)) (record { txn = 0; index = 0 })

abbrev pub IsRightCell : Batch → Slot → Cell → Type 0
IsRightCell b s c = right_cell (rights_of b) (number b s) ≡ Some c

abbrev pub IsRightOutcome : Batch → ℕ → Outcome → Type 0
IsRightOutcome b t o = slice_get (rights_of b).outcomes (position b t) ≡ Some o

-- ---- what a position wants

abbrev pub reads_at : Batch → ℕ → List Access
reads_at b t = reads_of (plan_of b) (position b t)

abbrev pub writes_at : Batch → ℕ → List Access
writes_at b t = writes_of (plan_of b) (position b t)

-- the accesses of one of t's two declared sets, and its key of index j
abbrev pub accesses_in : DeclaredSet → Batch → ℕ → List Access
accesses_in set b t = planned_in set (plan_of b) (position b t)

abbrev pub key_in : DeclaredSet → Batch → ℕ → ℕ → Option (List ℕ)
key_in set b t j = slice_get (unwrap_or (option_map (keys_in set) (txn_at b t)) []) j

abbrev pub is_sure_at : Batch → ℕ → Bool
is_sure_at b t = unwrap_or (option_map is_sure (txn_at b t)) false

-- the accesses whose cells t is evaluated over: those of its reads and, unless it is sure, of its writes
abbrev pub wanted_at : Batch → ℕ → List Access
wanted_at b t = reads_at b t ++ (if is_sure_at b t then [] else writes_at b t)

-- the slot of the version that the transaction u produces for the access
abbrev pub slot_in : ℕ → Access → Slot
slot_in u a = record { txn = u; index = a.index }

-- a wanted source of t is u
abbrev pub Wants : Batch → ℕ → ℕ → Type 0
Wants b t u = (a : Access) × Contains (wanted_at b t) a × (a.source ≡ Within u)

-- t is v, or wants a transaction that leads to v
pub data Leads (b : Batch) (t : ℕ) : ℕ → Type 0 where
  itself : Leads b t t
  further : (u v : ℕ) → Leads b t u → Wants b u v → Leads b t v
