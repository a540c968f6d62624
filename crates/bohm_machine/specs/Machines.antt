-- The state of a machine, and how it continues.
use Rattle.std.specs.Prelude.{◌≡◌, ℕ, ℤ, ◌+◌, ◌-◌, ◌≤◌, List, length}
use Rattle.std.specs.FinMap.{entries}
use Rattle.std.specs.Map.{keys_of}
use Rattle.bohm_types.specs.Keys.{names_of}
use Rattle.bohm_types.specs.Txn.{Txn}
use Rattle.bohm_txn.specs.declared.outcome.Reply.{Reply}
use Rattle.bohm_txn.specs.Meaning.{Look}
use Rattle.bohm_txn.specs.Serial.{state, replies}
use Rattle.bohm_txn.specs.Stores.{cell_in, store_of}
use Rattle.bohm_store.specs.Versions.{Timeline, declared_writes, past, total}

-- a machine is seen as its history
abbrev pub top_of : Timeline → ℕ
top_of m = m.top

abbrev pub floor_of : Timeline → ℕ
floor_of m = m.floor

-- what each key holds after the transaction with a timestamp
abbrev pub past_of : Timeline → ℕ → Look
past_of m ts = past m ts

-- what each key holds after the last transaction
abbrev pub now_of : Timeline → Look
now_of m = past_of m (top_of m)

-- the machine ran these transactions, one after another, and these are their replies
pub record GoesOn (was now : Timeline) (txns : List Txn) (answered : List Reply) : Type 0 where
  pub replies : answered ≡ replies (now_of was) txns
  pub top : top_of now ≡ top_of was + length txns
  pub floor : floor_of now ≡ floor_of was
  pub earlier : (ts : ℕ) → floor_of was ≤ ts → ts ≤ top_of was → past_of now ts ≡ past_of was ts
  pub later : (ts : ℕ) → top_of was ≤ ts → ts ≤ top_of now → past_of now ts ≡ state (now_of was) txns (ts - top_of was)
  pub count : total now.chains ≤ total was.chains + declared_writes txns

-- after a timestamp at which it had this look, the machine has run this log: from the floor to the top its past is the serial run of the log
pub record HasRun (look : Look) (start : ℕ) (log : List Txn) (m : Timeline) : Type 0 where
  pub top : top_of m ≡ start + length log
  pub floor : start ≤ floor_of m
  pub ordered : floor_of m ≤ top_of m
  pub past : (ts : ℕ) → floor_of m ≤ ts → ts ≤ top_of m → past_of m ts ≡ state look log (ts - start)

-- the machine forgot the past before its top. It names just the keys that have a value there, and keeps one version of each
pub record IsCompacted (was now : Timeline) : Type 0 where
  pub top : top_of now ≡ top_of was
  pub floor : floor_of now ≡ top_of was
  pub holds : now_of now ≡ now_of was
  pub store : List (List ℕ × ℤ)
  pub listed : store ≡ entries (store_of store)
  pub cells : cell_in (store_of store) ≡ now_of was
  pub names : keys_of now.chains ≡ names_of store
  pub count : total now.chains ≡ length store
  pub run : (look : Look) (start : ℕ) (log : List Txn) → HasRun look start log was → HasRun look start log now
