-- The batch that follows a history.
use Rattle.std.specs.Prelude.{◌≡◌, ℕ, ◌+◌, ◌-◌, ◌<◌, ◌≤◌, ◌++◌, List, length, max, true}
use Rattle.std.specs.List.{list_any}
use Rattle.bohm_types.specs.Txn.{Txn}
use Rattle.bohm_txn.specs.Meaning.{Look}
use Rattle.bohm_txn.specs.Serial.{state}
use Rattle.bohm_board.specs.declared.batch.Batch.{Batch}
use Rattle.bohm_place.specs.Noting.{declares_key}
use Rattle.bohm_board.specs.Batches.{first_of, txns_of, base_of}
use Rattle.bohm_store.specs.declared.version.Version.{Version}
use Rattle.bohm_store.specs.Versions.{Timeline, declared_writes, kept_versions, past, produced_versions, total, versions}

-- two looks agree on each key that the transactions declare
abbrev pub Agree : List Txn → Look → Look → Type 0
Agree txns look other = (k : List ℕ) → list_any (declares_key k) txns ≡ true → look k ≡ other k

-- the batch starts after the top, and its base is what its keys hold there
pub record IsNext (t : Timeline) (b : Batch) : Type 0 where
  pub first : first_of b ≡ t.top + 1
  pub base : Agree (txns_of b) (base_of b) (past t t.top)

-- the contract view of a history is unchanged
pub record IsSame (was now : Timeline) : Type 0 where
  pub floor : now.floor ≡ was.floor
  pub top : now.top ≡ was.top
  pub versions : (k : List ℕ) → versions now k ≡ versions was k
  pub count : total now.chains ≡ total was.chains

-- the versions of a key, followed by those that the transactions after the top produce
abbrev pub grown_versions : Timeline → List Txn → List ℕ → List Version
grown_versions was txns k = versions was k ++ produced_versions (was.top + 1) (past was was.top) txns k

-- each declared write of the transactions after the top has its version, and the past continues with their serial run
pub record IsSettled (was now : Timeline) (txns : List Txn) : Type 0 where
  pub floor : now.floor ≡ was.floor
  pub top : now.top ≡ was.top + length txns
  pub versions : (k : List ℕ) → versions now k ≡ grown_versions was txns k
  pub count : total now.chains ≤ total was.chains + declared_writes txns
  pub earlier : (ts : ℕ) → ts ≤ was.top → past now ts ≡ past was ts
  pub later : (ts : ℕ) → was.top ≤ ts → ts ≤ now.top → past now ts ≡ state (past was was.top) txns (ts - was.top)

-- as IsSettled, trimmed at a floor if it is above the current one: from the new floor on the past is the same
pub record IsSettledKept (was now : Timeline) (txns : List Txn) (low : ℕ) : Type 0 where
  pub floor : now.floor ≡ max was.floor low
  pub top : now.top ≡ was.top + length txns
  pub unchanged : low ≤ was.floor → (k : List ℕ) → versions now k ≡ grown_versions was txns k
  pub versions : was.floor < low → (k : List ℕ) → versions now k ≡ kept_versions low (grown_versions was txns k)
  pub count : total now.chains ≤ total was.chains + declared_writes txns
  pub earlier : (ts : ℕ) → now.floor ≤ ts → ts ≤ was.top → past now ts ≡ past was ts
  pub later : (ts : ℕ) → now.floor ≤ ts → was.top ≤ ts → ts ≤ now.top → past now ts ≡ state (past was was.top) txns (ts - was.top)
