-- What is checked and planned of a chunk ahead of its execution.
use Rattle.std.specs.Prelude.{◌≡◌, ℕ, ◌+◌, ◌<◌, ◌≤◌, List, length, All, Option, Some, None, min}
use Rattle.std.specs.List.{sum}
use Rattle.bohm_types.specs.Document.{Document}
use Rattle.bohm_types.specs.Txn.{Txn}
use Rattle.bohm_txn.specs.declared.fault.CheckFault.{CheckFault}
use Rattle.bohm_txn.specs.Chunked.{IsCheckedTo, IsCountOf}
use Rattle.bohm_txn.specs.Faulty.{IsWellFormedTxn}
use Rattle.bohm_text.specs.Windows.{with_log}
use Rattle.bohm_place.specs.Plans as plans_are
use Rattle.bohm_place.specs.Cuttings.{ArePlans}
use Rattle.bohm_read_ahead.specs.declared.checked_chunk.CheckedChunk.{CheckedChunk}
use Rattle.bohm_read_ahead.specs.declared.checked_chunk.Prepared.{Prepared}
use Rattle.bohm_read_ahead.specs.declared.checked_chunk.Prepared.TheVariants.{Faulty, TooMany, Ready, Planned}
use Rattle.bohm_types.specs.Limits.{most_txns}

-- the number of transactions with these more, exact up to the most that a log may have
abbrev pub count_with : ℕ → ℕ → ℕ
count_with count more = min (count + more) (most_txns + 1)

-- a document of this many transactions and without a fault has this first fault when continued by these
abbrev pub IsFaultBehind : ℕ → List Txn → Option CheckFault → Type 0
IsFaultBehind count txns found = (d : Document) → IsCountOf (length d.log) count → IsCheckedTo d None → IsCheckedTo (with_log d txns) found

-- after this many transactions without a fault these have none
pub record AreReady (count : ℕ) (txns : List Txn) : Type 0 where
  pub few : count + length txns ≤ most_txns
  pub checked : IsFaultBehind count txns None
  pub formed : All IsWellFormedTxn txns

-- the same, with the plans of their batches
pub record ArePlanned (count : ℕ) (txns : List Txn) (sizes : List ℕ) (plans : List plans_are.Planned) : Type 0 where
  pub ready : AreReady count txns
  pub total : sum sizes ≡ length txns
  pub planned : ArePlans (record { first = count + 1; log = txns; sizes = sizes }) plans

-- the meaning of what was found of transactions after this many others
abbrev pub IsPrepared : ℕ → List Txn → Prepared → Type 0
IsPrepared count txns (Faulty fault) = IsFaultBehind count txns (Some fault)
IsPrepared count txns TooMany = most_txns < count + length txns
IsPrepared count txns Ready = AreReady count txns
IsPrepared count txns (Planned cuts plans) = ArePlanned count txns cuts plans.items

-- a chunk after `before` transactions was checked and planned, and with its own there are `after` transactions
pub record IsCheckedBehind (before after : ℕ) (c : CheckedChunk) : Type 0 where
  pub behind : c.count ≡ before
  pub prepared : IsPrepared before c.log c.prepared
  pub count : after ≡ count_with before (length c.log)
