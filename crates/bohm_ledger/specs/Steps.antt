-- What each step of a ledger does to the trees of its store.
use Rattle.std.specs.Prelude.{◌≡◌, ◌≢◌, ◌<◌, ◌≤◌, ◌⊎◌, ℕ, pos, ◌+◌, Bool, true, false, length, List, [], ◌∷◌, Option, Some, None, if◌then◌else◌}
use Rattle.std.specs.Str.{bytes_eq}
use Rattle.bohm_types.specs.declared.cell.Cell.{Cell}
use Rattle.bohm_types.specs.declared.cell.Cell.TheVariants.{Absent, Present}
use Rattle.bohm_types.specs.declared.edition.Edition.{Edition}
use Rattle.sqlite_value.specs.Order.{Row, column}
use Rattle.sqlite_value.specs.declared.value.Value.TheVariants.{Int, Text}
use Rattle.sqlite_value.specs.Keys.{plain}
use Rattle.sqlite_trees.specs.Tree.{Trees, from_key, put_row, insert_entry, remove_entry}
use Rattle.sqlite_trees.specs.View.{View, OnlyWrites}
use Rattle.bohm_ledger.specs.Rows.{Has, head_tree, batch_tree, balance_tree, request_tree, head_row, batch_row, balance_row, request_row, place_of, first_of, text_of}
use Rattle.bohm_ledger.specs.Rules.{Look, Rules}
use Rattle.bohm_ledger.specs.Ledgers.{HasTables, IsBalance, AreKept}

-- one tree has these rows now, and no other differs
pub record Sets (old new : View) (tree : ℕ) (rows : List Row) : Type 0 where
  pub this : new.trees tree ≡ rows
  pub others : (t : ℕ) → t ≢ tree → new.trees t ≡ old.trees t
  pub rest : OnlyWrites old new

-- only cursors may differ
abbrev pub OnlyReads : View → View → Type 0
OnlyReads old new = new ≡ record old { cursors = new.cursors }

-- what a cursor has left to give
abbrev pub rest_of : Option (List Row) → List Row
rest_of None = []
rest_of (Some rows) = rows

abbrev pub left_of : View → ℕ → List Row
left_of v cursor = rest_of (v.cursors cursor)

-- the tables are there, and no tree was made or dropped since the last commit
pub record IsSteady (v : View) : Type 0 where
  pub tables : HasTables v
  pub listed : v.shape ≡ v.committed_shape

-- nothing is written that isn't committed, and the tables are there
pub record IsFresh (old new : View) : Type 0 where
  pub sound : new.is_broken ≡ false
  pub trees : new.trees ≡ old.committed
  pub settled : new.committed ≡ new.trees
  pub tables : HasTables new

-- what was written since the last commit is undone
pub record IsUndone (old new : View) : Type 0 where
  pub sound : new.is_broken ≡ false
  pub back : new.trees ≡ old.committed
  pub settled : new.committed ≡ old.committed
  pub shape : new.shape ≡ old.shape

-- what was written is on the disk
pub record IsStored (old new : View) : Type 0 where
  pub sound : new.is_broken ≡ false
  pub settled : new.committed ≡ new.trees
  pub shape : new.shape ≡ old.shape

-- the rows, with those of these requests
abbrev pub with_requests : ℕ → List (List ℕ × List ℕ) → List Row → List Row
with_requests place [] rows = rows
with_requests place (e ∷ es) rows = with_requests place es (insert_entry plain (request_row place e) rows)

-- the trees with one batch more, and its requests
pub record HasBatch (old : Trees) (place first : ℕ) (text : List ℕ) (answers : List (List ℕ × List ℕ)) (db : Trees) : Type 0 where
  pub batch : db batch_tree ≡ put_row (batch_row place first text) (old batch_tree)
  pub request : db request_tree ≡ with_requests place answers (old request_tree)
  pub head : db head_tree ≡ old head_tree
  pub balance : db balance_tree ≡ old balance_tree

-- what each key holds, but for one that holds what it holds now
abbrev pub with_key : Look → List ℕ → Look → Look
with_key now key look k = if bytes_eq key k then now k else look k

-- the same for these keys, one after another
abbrev pub with_keys : Look → List (List ℕ) → Look → Look
with_keys now [] look = look
with_keys now (k ∷ ks) look = with_keys now ks (with_key now k look)

-- each key holds what it held or what it holds now
abbrev pub IsBetween : Look → Look → Look → Type 0
IsBetween was now look = (k : List ℕ) → (look k ≡ was k) ⊎ (look k ≡ now k)

-- the rows without the one of a key that has this cell, and with it
abbrev pub without_cell : List ℕ → Cell → List Row → List Row
without_cell key Absent rows = rows
without_cell key (Present v) rows = remove_entry plain (balance_row (key, v)) rows

abbrev pub with_cell : List ℕ → Cell → List Row → List Row
with_cell key Absent rows = rows
with_cell key (Present v) rows = insert_entry plain (balance_row (key, v)) rows

-- the table `balance` has these cells now, and nothing else differs
pub record Rebalances (old new : View) (look : Look) : Type 0 where
  pub balance : IsBalance look (new.trees balance_tree)
  pub others : (t : ℕ) → t ≢ balance_tree → new.trees t ≡ old.trees t
  pub rest : OnlyWrites old new

-- the trees with a checkpoint at this transaction
pub record HasCheckpoint (old : Trees) (edition : Edition) (top : ℕ) (look : Look) (db : Trees) : Type 0 where
  pub head : db head_tree ≡ put_row (head_row edition top) (old head_tree)
  pub balance : IsBalance look (db balance_tree)
  pub batch : db batch_tree ≡ old batch_tree
  pub request : db request_tree ≡ old request_tree

-- some batches whose transactions are all at or below the bound left, and no other row differs
pub record Forgets {Defs : Type 0} (rules : Rules Defs) (bound next : ℕ) (old new : View) : Type 0 where
  pub kept : (checkpoint : ℕ) (bs : List (List ℕ)) → bound ≤ checkpoint → next ≡ 1 + length bs
      → AreKept rules checkpoint 1 1 bs (old.trees batch_tree) → AreKept rules checkpoint 1 1 bs (new.trees batch_tree)
  pub others : (t : ℕ) → t ≢ batch_tree → new.trees t ≡ old.trees t
  pub rest : OnlyWrites old new

-- the same of trees
pub record AreLess {Defs : Type 0} (rules : Rules Defs) (bound next : ℕ) (old new : Trees) : Type 0 where
  pub kept : (checkpoint : ℕ) (bs : List (List ℕ)) → bound ≤ checkpoint → next ≡ 1 + length bs → AreKept rules checkpoint 1 1 bs (old batch_tree)
      → AreKept rules checkpoint 1 1 bs (new batch_tree)
  pub others : (t : ℕ) → t ≢ batch_tree → new t ≡ old t

-- whatever batches end before this place, the rows aren't theirs behind a checkpoint from the bound on
abbrev pub AreNone : {Defs : Type 0} → Rules Defs → ℕ → ℕ → List Row → Type 0
AreNone rules bound next rows = (checkpoint : ℕ) (bs : List (List ℕ)) → bound ≤ checkpoint → next ≡ 1 + length bs → ¬ AreKept rules checkpoint 1 1 bs rows

-- a row of a batch that may leave: it has no definition, all its transactions are at or below the bound, and others follow it
pub record IsOld {Defs : Type 0} (rules : Rules Defs) (bound next : ℕ) (row : Row) : Type 0 where
  pub undefining : rules.is_plain (text_of row) ≡ true
  pub below : first_of row + rules.size (text_of row) ≤ bound + 1
  pub followed : place_of row + 1 < next

-- no row is such a one
abbrev pub AreYoung : {Defs : Type 0} → Rules Defs → ℕ → ℕ → List Row → Type 0
AreYoung rules bound next rows = (row : Row) → Has row rows → ¬ IsOld rules bound next row

-- no row before this place is
abbrev pub AreYoungBefore : {Defs : Type 0} → Rules Defs → ℕ → ℕ → ℕ → List Row → Type 0
AreYoungBefore rules bound next place rows = (row : Row) → Has row rows → place_of row < place → ¬ IsOld rules bound next row

-- the rows are those of batches that end before this place, behind a checkpoint from the bound on
pub record IsBatchTree {Defs : Type 0} (rules : Rules Defs) (bound next : ℕ) (rows : List Row) : Type 0 where
  pub checkpoint : ℕ
  pub batches : List (List ℕ)
  pub low : bound ≤ checkpoint
  pub placed : next ≡ 1 + length batches
  pub kept : AreKept rules checkpoint 1 1 batches rows

-- the row is the first one from a place on, or there is none
abbrev pub IsFirstFrom : ℕ → Row → Bool → List Row → Type 0
IsFirstFrom place row true rows = (left : List Row) × (from_key plain (Int (pos place) ∷ []) rows ≡ row ∷ left)
IsFirstFrom place row false rows = from_key plain (Int (pos place) ∷ []) rows ≡ []

-- the row has the id and is one of these, or none of them has the id
abbrev pub Finds : List ℕ → Row → Bool → List Row → Type 0
Finds id row true rows = Has row rows × (column row 0 ≡ Text id)
Finds id row false rows = (place : ℕ) (answer : List ℕ) → ¬ Has (request_row place (id, answer)) rows

-- the trees with the row of a new ledger
pub record IsFounded (old : Trees) (edition : Edition) (db : Trees) : Type 0 where
  pub head : db head_tree ≡ put_row (head_row edition 0) (old head_tree)
  pub others : (t : ℕ) → t ≢ head_tree → db t ≡ old t
