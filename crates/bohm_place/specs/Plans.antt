-- The right plan of a batch.
use Rattle.std.specs.Prelude.{◌≡◌, ℕ, ◌+◌, ◌<◌, ◌≤◌, ◌^◌, ◌⊎◌, Bool, List, [], ◌∷◌, length, map, take}
use Rattle.std.specs.Prelude.{drop, All, Option, Some, slice_get, unwrap_or, ◌==◌, if◌then◌else◌}
use Rattle.std.specs.Option.{option_map}
use Rattle.bohm_types.specs.Txn.{Txn}
use Rattle.bohm_txn.specs.Faulty.{IsWellFormedTxn}
use Rattle.bohm_txn.specs.Sure.{is_sure}
use Rattle.bohm_place.specs.declared.access.Access.{Access}
use Rattle.bohm_place.specs.declared.access.Source.{Source}
use Rattle.bohm_place.specs.declared.access.Source.TheVariants.{Before, Within}
use Rattle.bohm_place.specs.declared.declared_set.DeclaredSet.{DeclaredSet}
use Rattle.bohm_place.specs.declared.declared_set.DeclaredSet.TheVariants.{Reads, Writes}
use Rattle.bohm_place.specs.declared.placeholder.Placeholder.{Placeholder}
use Rattle.bohm_place.specs.declared.row.Row.{Row}
use Rattle.bohm_place.specs.Slots.{offset}
use Rattle.bohm_place.specs.Writers.{IsNewest, WritesAt}

-- the accesses of one transaction, in the order in which their keys are declared, the number of slots of the transactions before it, and whether it is sure
pub record Accesses : Type 0 where
  pub reads : List Access
  pub writes : List Access
  pub slot : ℕ
  pub sure : Bool

-- the contract view of a plan: the first timestamp, the accesses of each transaction, and the number of all slots
pub record Planned : Type 0 where
  pub first : ℕ
  pub rows : List Accesses
  pub slots : ℕ

-- the accesses of the batch's transaction at this index
abbrev pub reads_of : Planned → ℕ → List Access
reads_of p i = unwrap_or (option_map (λ row. row.reads) (slice_get p.rows i)) []

abbrev pub writes_of : Planned → ℕ → List Access
writes_of p i = unwrap_or (option_map (λ row. row.writes) (slice_get p.rows i)) []

abbrev pub sure_at : Planned → ℕ → Option Bool
sure_at p i = option_map (λ row. row.sure) (slice_get p.rows i)

abbrev pub slot_at : Planned → ℕ → Option ℕ
slot_at p i = option_map (λ row. row.slot) (slice_get p.rows i)

-- the keys and accesses of one of a transaction's two declared sets
abbrev pub keys_in : DeclaredSet → Txn → List (List ℕ)
keys_in Reads x = x.reads
keys_in Writes x = x.writes

abbrev pub planned_in : DeclaredSet → Planned → ℕ → List Access
planned_in Reads p i = reads_of p i
planned_in Writes p i = writes_of p i

abbrev pub source_in : DeclaredSet → Planned → ℕ → ℕ → Option Source
source_in set p i j = option_map (λ a. a.source) (slice_get (planned_in set p i) j)

-- the index is that of the source's declared write of the key; a source `Before` has none
abbrev pub IsIndexOf : ℕ → List Txn → List ℕ → ℕ → Source → Type 0
IsIndexOf first txns k index Before = Unit {0}
IsIndexOf first txns k index (Within u) = WritesAt first txns k u index

-- the access of the key by the transaction with the timestamp t has the right source
pub record IsRightAccess (first : ℕ) (txns : List Txn) (t : ℕ) (k : List ℕ) (a : Access) : Type 0 where
  pub newest : IsNewest first txns k t a.source
  pub write : IsIndexOf first txns k a.index a.source

-- there is a right access for each key
pub record AreRightAccesses (first : ℕ) (txns : List Txn) (t : ℕ) (keys : List (List ℕ)) (accesses : List Access) : Type 0 where
  pub paired : length keys ≡ length accesses
  pub each : (j : ℕ) (k : List ℕ) (a : Access) → slice_get keys j ≡ Some k → slice_get accesses j ≡ Some a → IsRightAccess first txns t k a

-- the source of each access is the newest writer in the batch before the accessing transaction, the sure transactions are marked, and each transaction's
-- slots follow those of the transactions before it
pub record IsRightPlan (txns : List Txn) (p : Planned) : Type 0 where
  pub paired : length p.rows ≡ length txns
  pub reads : (i : ℕ) (txn : Txn) → slice_get txns i ≡ Some txn → AreRightAccesses p.first txns (p.first + i) txn.reads (reads_of p i)
  pub writes : (i : ℕ) (txn : Txn) → slice_get txns i ≡ Some txn → AreRightAccesses p.first txns (p.first + i) txn.writes (writes_of p i)
  pub sure : (i : ℕ) (txn : Txn) → slice_get txns i ≡ Some txn → sure_at p i ≡ Some (is_sure txn)
  pub slot : (i : ℕ) (txn : Txn) → slice_get txns i ≡ Some txn → slot_at p i ≡ Some (offset txns i)
  pub slots : p.slots ≡ offset txns (length txns)

-- ---- indices in a base

-- no index in a base is noted: the index of each access whose source is `Before` is 0
abbrev pub HasNoPlaces : Planned → Type 0
HasNoPlaces p = (set : DeclaredSet) (i j : ℕ) (a : Access) → slice_get (planned_in set p i) j ≡ Some a → a.source ≡ Before → a.index ≡ 0

-- the second plan has the sources, the slots and the sure transactions of the first
pub record HasSourcesOf (p q : Planned) : Type 0 where
  pub first : q.first ≡ p.first
  pub paired : length q.rows ≡ length p.rows
  pub sources : (set : DeclaredSet) (i j : ℕ) → source_in set q i j ≡ source_in set p i j
  pub sure : (i : ℕ) → sure_at q i ≡ sure_at p i
  pub slot : (i : ℕ) → slot_at q i ≡ slot_at p i
  pub slots : q.slots ≡ p.slots

-- this is access j of the set in row i, with the index noted
pub record IsNote (set other : DeclaredSet) (i m j n place : ℕ) (a : Access) : Type 0 where
  pub same : other ≡ set
  pub row : m ≡ i
  pub index : n ≡ j
  pub access : a ≡ record { source = Before; index = place }

-- the second plan is the first with an index noted at access j of the set in row i
pub record IsNoted (p q : Planned) (set : DeclaredSet) (i j place : ℕ) : Type 0 where
  pub sources : HasSourcesOf p q
  pub here : slice_get (planned_in set q i) j ≡ Some (record { source = Before; index = place })
  pub each : (other : DeclaredSet) (m n : ℕ) (a : Access) → slice_get (planned_in other q m) n ≡ Some a
      → (slice_get (planned_in other p m) n ≡ Some a) ⊎ IsNote set other i m j n place a

-- ---- the precondition and the result of planning by key numbers

-- the batch can have the timestamps from `first` on, and each transaction is well-formed
pub record IsPlannable (first : ℕ) (txns : List Txn) : Type 0 where
  pub position : 0 < first
  pub room : first + length txns ≤ 2 ^ 32
  pub formed : All IsWellFormedTxn txns

-- the right plan of the batch that starts at this timestamp, without noted indices
pub record IsPlanned (start : ℕ) (txns : List Txn) (plan : Planned) : Type 0 where
  pub first : plan.first ≡ start
  pub right : IsRightPlan txns plan
  pub unplaced : HasNoPlaces plan

-- ---- a plan in memory

-- a begin of 0 represents no placeholder of the batch
abbrev pub access_of : Placeholder → Access
access_of v = record { source = if (v.begin == 0) then Before else Within v.begin; index = v.index }

abbrev pub accesses_of : List Placeholder → Row → Accesses
accesses_of vs row = record {
  reads = map access_of (take row.reads (drop row.start vs));
  writes = map access_of (take row.writes (drop (row.start + row.reads) vs));
  slot = row.slot;
  sure = row.sure;
}

-- the start and the number of a declared set's accesses
abbrev pub start_in : DeclaredSet → Row → ℕ
start_in Reads row = row.start
start_in Writes row = row.start + row.reads

abbrev pub count_in : DeclaredSet → Row → ℕ
count_in Reads row = row.reads
count_in Writes row = row.writes

abbrev pub end_of : Row → ℕ
end_of row = (row.start + row.reads) + row.writes

-- each row's accesses follow those of the rows before it, and all start at n or later
abbrev pub AreLaidFrom : ℕ → List Row → Type 0
AreLaidFrom n [] = Unit {0}
AreLaidFrom n (row ∷ rows) = (n ≤ row.start) × AreLaidFrom (end_of row) rows

pub record AreRows (rows : List Row) : Type 0 where
  pub few : length rows < 2 ^ 32
  pub laid : AreLaidFrom 0 rows
