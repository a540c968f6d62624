-- A document with sorted keys.
use Rattle.std.specs.Prelude.{ℕ, List, [], ◌∷◌, ◌++◌, Bool, false, Option, Some, None, if◌then◌else◌}
use Rattle.std.specs.FinMap.{entries}
use Rattle.std.specs.List.{flat_map}
use Rattle.bohm_types.specs.Document.{Document}
use Rattle.bohm_types.specs.KeySets.{key_set}
use Rattle.bohm_types.specs.Parts.{key_read, sums, tested, target}
use Rattle.bohm_types.specs.Stmt.{Stmt}
use Rattle.bohm_types.specs.Term.{Atom}
use Rattle.bohm_types.specs.Txn.{Txn}
use Rattle.bohm_txn.specs.Stores.{store_of}

-- ---- what a body reads and writes

abbrev pub the_key : Option (List ℕ) → List (List ℕ)
the_key None = []
the_key (Some k) = k ∷ []

abbrev pub sum_reads : List (Bool × Atom) → List (List ℕ)
sum_reads sum = flat_map (λ t. the_key (key_read t.1)) sum

abbrev pub stmt_reads : Stmt → List (List ℕ)
stmt_reads s = flat_map sum_reads (sums s) ++ the_key (tested s)

abbrev pub body_reads : List Stmt → List (List ℕ)
body_reads body = flat_map stmt_reads body

abbrev pub body_writes : List Stmt → List (List ℕ)
body_writes body = flat_map (λ s. the_key (target s)) body

-- ---- documents

-- a transaction with sorted sets; a missing set has what the body reads or writes
abbrev pub settled_txn : Bool → Bool → Txn → Txn
settled_txn no_reads no_writes t = record t {
  reads = key_set (if no_reads then body_reads t.body else t.reads);
  writes = key_set (if no_writes then body_writes t.body else t.writes);
}

-- the first flag, or false if no flags are left
abbrev pub first_flag : List Bool → Bool
first_flag [] = false
first_flag (b ∷ bs) = b

abbrev pub other_flags : List Bool → List Bool
other_flags [] = []
other_flags (b ∷ bs) = bs

abbrev pub settled_log : List Bool → List Bool → List Txn → List Txn
settled_log no_reads no_writes [] = []
settled_log no_reads no_writes (t ∷ ts) = settled_txn (first_flag no_reads) (first_flag no_writes) t ∷ settled_log (other_flags no_reads)
    (other_flags no_writes) ts

-- the store sorted by key, and the sets sorted; a transaction's flags say whether its reads, and its writes, are missing
abbrev pub settled : List Bool → List Bool → Document → Document
settled no_reads no_writes d = record d { store = entries (store_of d.store); log = settled_log no_reads no_writes d.log }
