-- The counts of each key while a log's parts are processed.
use Rattle.std.specs.Prelude.{◌≡◌, ℕ, ◌+◌, ◌<◌, ◌^◌, List, max, Bool, unwrap_or, is_some}
use Rattle.std.specs.List.{list_any}
use Rattle.std.specs.Str.{bytes_eq}
use Rattle.std.specs.HashMap.{HashMap, get}
use Rattle.bohm_types.specs.Txn.{Txn}
use Rattle.bohm_place.specs.declared.declared_set.DeclaredSet.{DeclaredSet}
use Rattle.bohm_place.specs.declared.declared_set.DeclaredSet.TheVariants.{Reads, Writes}
use Rattle.bohm_explain.specs.declared.gathering.Gathering.{Gathering}
use Rattle.bohm_explain.specs.declared.tallies.Tally.{Tally}
use Rattle.bohm_explain.specs.Heats.{Chained, chain_of, declares, readers_of, writers_of}

-- ---- one key

abbrev pub nothing : Tally
nothing = record { writers = 0; readers = 0; chain = 0 }

-- with one more transaction that has the key in this set
abbrev pub plus : DeclaredSet → Tally → Tally
plus Reads t = record { writers = t.writers; readers = t.readers + 1; chain = t.chain }
plus Writes t = record { writers = t.writers + 1; readers = t.readers; chain = t.chain }

-- with these transactions added
abbrev pub counted_in : Tally → List Txn → List ℕ → Tally
counted_in t txns k = record { writers = t.writers + writers_of k txns; readers = t.readers + readers_of k txns; chain = t.chain }

-- with a chain through an arrow for the key added
abbrev pub raised : Tally → ℕ → Tally
raised t n = record { writers = t.writers; readers = t.readers; chain = max t.chain n }

-- the number of transactions that have the key in this set
abbrev pub number : DeclaredSet → Tally → ℕ
number Reads t = t.readers
number Writes t = t.writers

-- n more fit in 32 bits
abbrev pub HasRoom : DeclaredSet → ℕ → Tally → Type 0
HasRoom set n t = number set t + n < 2 ^ 32

-- ---- all keys

abbrev pub tally : {S : Type 0} → HashMap (List ℕ) Tally S → List ℕ → Tally
tally m k = unwrap_or (get bytes_eq m k) nothing

-- whether the key is listed
abbrev pub lists : {S : Type 0} → HashMap (List ℕ) Tally S → List ℕ → Bool
lists m k = is_some (get bytes_eq m k)

-- n more transactions can be counted
abbrev pub HasRoomFor : {S : Type 0} → ℕ → HashMap (List ℕ) Tally S → Type 0
HasRoomFor n m = (set : DeclaredSet) (k : List ℕ) → HasRoom set n (tally m k)

-- exactly the keys that the log declares are listed, each with its counts in the log and its parts
pub record IsTallied {S : Type 0} (log : List Txn) (batches : List Chained) (m : HashMap (List ℕ) Tally S) : Type 0 where
  pub counts : (k : List ℕ) → tally m k ≡ record { writers = writers_of k log; readers = readers_of k log; chain = chain_of k batches }
  pub listed : (k : List ℕ) → lists m k ≡ list_any (declares k) log

-- ---- a gathering

-- the gathering has processed a log of these parts
abbrev pub IsGathered : List Txn → List Chained → Gathering → Type 0
IsGathered log batches g = IsTallied log batches g.tallies

-- n more transactions can be noted
abbrev pub CanTake : ℕ → Gathering → Type 0
CanTake n g = HasRoomFor n g.tallies
