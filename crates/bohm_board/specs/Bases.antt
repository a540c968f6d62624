-- The data of a batch: its transactions and plan, and the cells of its keys before it.
use Rattle.std.specs.Prelude.{◌≡◌, ℕ, ◌+◌, ◌<◌, ◌≤◌, ◌^◌, All, List, [], ◌∷◌, ◌++◌, length, map, Some, slice_get}
use Rattle.bohm_types.specs.declared.cell.Cell.{Cell}
use Rattle.bohm_types.specs.declared.cell.Cell.TheVariants as cells
use Rattle.bohm_types.specs.Txn.{Txn}
use Rattle.bohm_hints.specs.Top.{top_cell}
use Rattle.bohm_txn.specs.Faulty.{IsWellFormedTxn}
use Rattle.bohm_txn.specs.Meaning.{Look, newest}
use Rattle.bohm_board.specs.declared.base.Base.{Base}
use Rattle.bohm_board.specs.declared.base.Base.TheVariants.{Listed, Top}
use Rattle.bohm_board.specs.declared.transactions.Transactions.{Transactions}
use Rattle.bohm_board.specs.declared.transactions.Transactions.TheVariants.{Lent, Own}
use Rattle.bohm_place.specs.Noting.{AreKeysOf, AreNoted}
use Rattle.bohm_place.specs.Plans.{Planned, IsRightPlan}
use Rattle.bohm_types.specs.Limits.{largest_batch}

abbrev pub keys_of : List (List ℕ × Cell) → List (List ℕ)
keys_of entries = map (λ e. e.0) entries

-- the keys that transactions declare, the reads of each before its writes
abbrev pub declared_keys : List Txn → List (List ℕ)
declared_keys [] = []
declared_keys (t ∷ ts) = (t.reads ++ t.writes) ++ declared_keys ts

-- the plan is right, its transactions are well-formed, and their number is a possible size of a batch
pub record IsBatched (txns : List Txn) (plan : Planned) : Type 0 where
  pub some : 0 < length txns
  pub few : length txns ≤ largest_batch
  pub timestamps : plan.first + length txns ≤ 2 ^ 32
  pub formed : All IsWellFormedTxn txns
  pub right : ∥ IsRightPlan txns plan ∥₁

-- slots of a batch
abbrev pub most_batch_slots : ℕ
most_batch_slots = 131072

-- a key has one entry if a transaction declares it, and otherwise none
abbrev pub IsBase : List Txn → List (List ℕ × Cell) → Type 0
IsBase txns entries = AreKeysOf txns (keys_of entries)

-- the cell of each key, by a list of keys
abbrev pub listed_cells : List (List ℕ × Cell) → Look
listed_cells entries = λ k. newest entries k cells.Absent

-- the cell of each key before the batch
abbrev pub cells_of : Base → Look
cells_of (Listed entries) = listed_cells entries
cells_of (Top t) = top_cell t

-- the entries of one key have the same cell
abbrev pub AreSteady : List (List ℕ × Cell) → Type 0
AreSteady entries = (i : ℕ) (e : List ℕ × Cell) → slice_get entries i ≡ Some e → newest entries e.0 cells.Absent ≡ e.1

-- in a listed base each access of the plan whose source is `Before` has the index of an entry of its key, and a key has one cell
abbrev pub IsBaseFor : List Txn → Planned → Base → Type 0
IsBaseFor txns plan base = (entries : List (List ℕ × Cell)) → base ≡ Listed entries → AreSteady entries × AreNoted txns plan (keys_of entries)

-- the transactions of a batch
abbrev pub txns_in : Transactions → List Txn
txns_in (Lent txns) = txns
txns_in (Own document) = document.log
