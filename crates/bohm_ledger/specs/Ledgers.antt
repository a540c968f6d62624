-- Which trees hold a ledger.
use Rattle.std.specs.Prelude.{◌≡◌, ◌⊎◌, ℕ, ℤ, ◌+◌, ◌<◌, ◌≤◌, true, false, List, [], ◌∷◌, length, take}
use Rattle.bohm_types.specs.declared.cell.Cell.TheVariants.{Present}
use Rattle.bohm_types.specs.declared.edition.Edition.{Edition}
use Rattle.sqlite_value.specs.Order.{Row}
use Rattle.sqlite_value.specs.Keys.{plain}
use Rattle.sqlite_trees.specs.Tree.{Trees}
use Rattle.sqlite_trees.specs.View.{View}
use Rattle.sqlite_trees.specs.declared.store.Shape.TheVariants.{Table, Index}
use Rattle.bohm_ledger.specs.Rows.{head_tree, batch_tree, balance_tree, request_tree, head_row, batch_row, balance_row, Has, AreSame}
use Rattle.bohm_ledger.specs.Rules.{Look, State, Rules, origin, run, total, requests}

-- a batch whose row may be gone: it has no definition, all its transactions are at or below the checkpoint, and others follow
pub record MayGo {Defs : Type 0} (rules : Rules Defs) (checkpoint first : ℕ) (b : List ℕ) (bs : List (List ℕ)) : Type 0 where
  pub undefining : rules.is_plain b ≡ true
  pub below : first + rules.size b ≤ checkpoint + 1
  pub followed : 0 < length bs

-- the rows of these batches, of which the first has this place and this number of its first transaction; some that may be gone are gone
abbrev pub AreKept : {Defs : Type 0} → Rules Defs → ℕ → ℕ → ℕ → List (List ℕ) → List Row → Type 0
AreKept rules checkpoint place first [] rows = rows ≡ []
AreKept rules checkpoint place first (b ∷ bs) rows =
    ((rest : List Row) × (rows ≡ batch_row place first b ∷ rest) × AreKept rules checkpoint (place + 1) (first + rules.size b) bs rest)
    ⊎ (MayGo rules checkpoint first b bs × AreKept rules checkpoint (place + 1) (first + rules.size b) bs rows)

-- a row for each key that has a value, and no other
pub record IsBalance (look : Look) (rows : List Row) : Type 0 where
  pub each : (row : Row) → Has row rows → (e : List ℕ × ℤ) × (row ≡ balance_row e) × (look e.0 ≡ Present e.1)
  pub all : (k : List ℕ) (v : ℤ) → look k ≡ Present v → Has (balance_row (k, v)) rows

-- the trees stand for these batches: the checkpoint is after the first `mark` of them
pub record IsLedger {Defs : Type 0} (rules : Rules Defs) (edition : Edition) (bs : List (List ℕ)) (mark : ℕ) (db : Trees) : Type 0 where
  pub within : mark ≤ length bs
  pub head : db head_tree ≡ head_row edition (total rules (take mark bs)) ∷ []
  pub batches : AreKept rules (total rules (take mark bs)) 1 1 bs (db batch_tree)
  pub balance : IsBalance (run rules (origin rules edition) (take mark bs)).look (db balance_tree)
  pub requests : AreSame (requests rules 1 (origin rules edition) bs) (db request_tree)

-- the trees stand for these batches
abbrev pub StandsFor : {Defs : Type 0} → Rules Defs → Edition → List (List ℕ) → Trees → Type 0
StandsFor rules edition bs db = (mark : ℕ) × IsLedger rules edition bs mark db

-- the tables are there: `ledger` and `batch` with rowids, `balance` and `request` without
pub record HasTables (v : View) : Type 0 where
  pub head : v.shape head_tree ≡ Table
  pub batch : v.shape batch_tree ≡ Table
  pub balance : v.shape balance_tree ≡ Index plain
  pub request : v.shape request_tree ≡ Index plain

-- the store holds these batches, all of it is on the disk, and the machine has run them in order
pub record IsReady {Defs : Type 0} (rules : Rules Defs) (edition : Edition) (bs : List (List ℕ)) (v : View) (place checkpoint : ℕ)
    (state : State Defs) (saved : Look) : Type 0 where
  pub sound : v.is_broken ≡ false
  pub settled : v.committed ≡ v.trees
  pub tables : HasTables v
  pub mark : ℕ
  pub ledger : IsLedger rules edition bs mark v.trees
  pub placed : place ≡ 1 + length bs
  pub ran : state ≡ run rules (origin rules edition) bs
  pub checkpointed : checkpoint ≡ total rules (take mark bs)
  pub kept : saved ≡ (run rules (origin rules edition) (take mark bs)).look

-- the four tables are empty
pub record IsBlank (db : Trees) : Type 0 where
  pub head : db head_tree ≡ []
  pub batch : db batch_tree ≡ []
  pub balance : db balance_tree ≡ []
  pub request : db request_tree ≡ []
