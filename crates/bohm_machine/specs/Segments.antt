-- Which segments a machine runs, and how far.
use Rattle.std.specs.Prelude.{◌≡◌, ℕ, ◌+◌, ◌<◌, ◌≤◌, ◌^◌, ◌++◌, List, [], length}
use Rattle.std.specs.List.{sum}
use Rattle.bohm_types.specs.Document.{Document}
use Rattle.bohm_types.specs.Txn.{Txn}
use Rattle.bohm_txn.specs.declared.outcome.Reply.{Reply}
use Rattle.bohm_txn.specs.Meaning.{Look}
use Rattle.bohm_txn.specs.Serial.{replies}
use Rattle.bohm_place.specs.Cuttings.{IsEven}
use Rattle.bohm_apply.specs.Runs.{IsEndOfBatch}
use Rattle.bohm_machine.specs.declared.fault.SegmentFault.{SegmentFault}
use Rattle.bohm_machine.specs.declared.fault.SegmentFault.TheVariants.{Store, Timestamps}
use Rattle.bohm_store.specs.Versions.{Timeline}
use Rattle.bohm_machine.specs.Machines.{HasRun, top_of}

-- the segment has no store, and its positions after the top are timestamps
pub record IsTaken (m : Timeline) (segment : Document) : Type 0 where
  pub store : segment.store ≡ []
  pub timestamps : top_of m + length segment.log < 2 ^ 32

abbrev pub IsRefused : Timeline → Document → SegmentFault → Type 0
IsRefused m segment Store = 0 < length segment.store
IsRefused m segment Timestamps = (segment.store ≡ []) × (2 ^ 32 ≤ top_of m + length segment.log)

-- the first n transactions are whole batches: batches of these sizes, of which all but the last have size `batch`
pub record AreWholeBatches (log : List Txn) (batch n : ℕ) : Type 0 where
  pub sizes : List ℕ
  pub even : IsEven batch sizes
  pub total : sum sizes ≡ length log
  pub end : IsEndOfBatch sizes n

-- a machine that had run a log has run these transactions after it, and the replies to all of them are those of the serial run
pub record RunsOn (was now : Timeline) (txns : List Txn) (answered : List Reply) : Type 0 where
  pub run : (look : Look) (start : ℕ) (log : List Txn) → HasRun look start log was → HasRun look start (log ++ txns) now
  pub replies : (look : Look) (start : ℕ) (log : List Txn) → HasRun look start log was → replies look log ++ answered ≡ replies look (log ++ txns)
