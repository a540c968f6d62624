-- The result of running a log on a history.
use Rattle.std.specs.Prelude.{◌≡◌, ℕ, zero, suc, ◌+◌, ◌-◌, ◌≤◌, List, length, max, take, Bool, true}
use Rattle.bohm_types.specs.Txn.{Txn}
use Rattle.bohm_txn.specs.declared.outcome.Reply.{Reply}
use Rattle.bohm_txn.specs.Meaning.{Look}
use Rattle.bohm_txn.specs.Serial.{state, replies}
use Rattle.bohm_store.specs.Versions.{Timeline, declared_writes, past, total, versions, versions_to}
use Rattle.bohm_place.specs.Cuttings.{Cutting, ahead}

-- the floor after a number of transactions: `keep` timestamps below the top stay readable, and the floor never falls
abbrev pub floor_after : Timeline → ℕ → ℕ → ℕ
floor_after was keep zero = was.floor
floor_after was keep (suc n) = max was.floor ((was.top + suc n) - keep)

-- the history was continued by these transactions, one after another, and these are their replies
pub record IsApplied (was now : Timeline) (txns : List Txn) (keep : ℕ) (answered : List Reply) : Type 0 where
  pub replies : answered ≡ replies (past was was.top) txns
  pub top : now.top ≡ was.top + length txns
  pub floor : now.floor ≡ floor_after was keep (length txns)
  pub earlier : (ts : ℕ) → now.floor ≤ ts → ts ≤ was.top → past now ts ≡ past was ts
  pub later : (ts : ℕ) → now.floor ≤ ts → was.top ≤ ts → ts ≤ now.top → past now ts ≡ state (past was was.top) txns (ts - was.top)
  pub count : total now.chains ≤ total was.chains + declared_writes txns

-- no key has more versions up to the old top than it had
abbrev pub NoneEarlier : Timeline → Timeline → Type 0
NoneEarlier was now = (k : List ℕ) → length (versions_to was.top (versions now k)) ≤ length (versions was k)

-- some of the transactions were run, from the first on
abbrev pub RanSome : Timeline → Timeline → List Txn → ℕ → Type 0
RanSome was now txns keep = (n : ℕ) × (answered : List Reply) × IsApplied was now (take n txns) keep answered × NoneEarlier was now

-- from the floor to the top the history's past is unchanged, and no version was added
pub record IsStillPast (was now : Timeline) : Type 0 where
  pub top : now.top ≡ was.top
  pub floor : now.floor ≡ was.floor
  pub past : (ts : ℕ) → was.floor ≤ ts → ts ≤ was.top → past now ts ≡ past was ts
  pub count : total now.chains ≤ total was.chains

-- these transactions after the top of a history, in batches of these sizes
abbrev pub cutting_behind : Timeline → List Txn → List ℕ → Cutting
cutting_behind t txns sizes = record { first = t.top + 1; log = txns; sizes = sizes }

-- this many transactions are whole batches
abbrev pub IsEndOfBatch : List ℕ → ℕ → Type 0
IsEndOfBatch sizes n = (batches : ℕ) × (n ≡ ahead sizes batches)

-- from the floor to the top, which is the log's length, the history's past is the serial run of the log
pub record IsHistoryOf (start : Look) (log : List Txn) (keep : ℕ) (t : Timeline) : Type 0 where
  pub top : t.top ≡ length log
  pub floor : t.floor ≡ length log - keep
  pub past : (ts : ℕ) → t.floor ≤ ts → ts ≤ t.top → past t ts ≡ state start log ts

-- a walk over a cut log settled whole batches from the first on, and all of them if it succeeded
pub record IsWalked (was now : Timeline) (c : Cutting) (keep : ℕ) (answered : List Reply) (ended : Bool) : Type 0 where
  pub applied : IsApplied was now (take (length answered) c.log) keep answered
  pub batches : IsEndOfBatch c.sizes (length answered)
  pub whole : ended ≡ true → length answered ≡ length c.log
