-- The rows of a store, and the machine that is opened on them.
use Rattle.std.specs.Prelude.{◌≡◌, ℕ, ℤ, List, map, true}
use Rattle.std.specs.FinMap.{entries}
use Rattle.std.specs.List.{AllByRecursion}
use Rattle.bohm_types.specs.Keys.{names_of, rising}
use Rattle.bohm_types.specs.Sound.{IsName}
use Rattle.bohm_types.specs.Words.{before_zero, padded}
use Rattle.bohm_txn.specs.Stores.{cell_in, store_of}
use Rattle.bohm_store.specs.Versions.{Timeline}
use Rattle.bohm_machine.specs.Machines.{past_of}
use Rattle.bohm_c.specs.Keeping.{IsOpened, IsReadable}
use Rattle.bohm_c.specs.Reading.{snapshot_of}
use Rattle.bohm_c.specs.declared.entries.BohmEntry.{BohmEntry}
use Rattle.bohm_c.specs.declared.session.Session.{Session}

-- the bytes of a row's key
abbrev pub name_in : BohmEntry → List ℕ
name_in row = before_zero row.key

abbrev pub entry_of : BohmEntry → List ℕ × ℤ
entry_of row = (name_in row, row.value)

-- the row of an entry
abbrev pub entry_row : List ℕ × ℤ → BohmEntry
entry_row entry = record { key = padded 32 entry.0; value = entry.1 }

-- the rows are a store's entries in rising order of their keys, and a machine was opened on that store, as it was at a timestamp
pub record IsOpeningOfRows (rows : List BohmEntry) (start : ℕ) (session : Session) : Type 0 where
  pub named : AllByRecursion IsName (names_of (map entry_of rows))
  pub rises : rising (names_of (map entry_of rows)) ≡ true
  pub opened : IsOpened (snapshot_of (map entry_of rows)) start session

-- the rows are those of the store after the transaction with a timestamp, in rising order of their keys
pub record AreRows (m : Timeline) (ts : ℕ) (rows : List BohmEntry) : Type 0 where
  pub store : List (List ℕ × ℤ)
  pub readable : IsReadable m ts
  pub holds : cell_in (store_of store) ≡ past_of m ts
  pub listed : store ≡ entries (store_of store)
  pub rises : rising (names_of store) ≡ true
  pub told : rows ≡ map entry_row store
