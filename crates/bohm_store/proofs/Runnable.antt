-- Well-formed transactions can be run.
use Rattle.std.proofs.Common.{List, All}
use Rattle.std.proofs.lemmas.List.Elements.{All-weaker}
use Rattle.bohm_types.specs.Txn.{Txn}
use Rattle.bohm_txn.specs.Faulty.{IsWellFormedTxn}
use Rattle.bohm_txn.proofs.ForCallers.{rising_writes, usable}
use Rattle.bohm_place.proofs.ForCallers.{AreDistinct-rising}
use Rattle.bohm_store.specs.Writes.{IsRunnable}

pub runnable : (t : Txn) → IsWellFormedTxn t → IsRunnable t
runnable t well = record { usable = usable t well; apart = AreDistinct-rising t.writes (rising_writes t well) }

pub all_runnable : (txns : List Txn) → All IsWellFormedTxn txns → All IsRunnable txns
all_runnable txns well = All-weaker IsWellFormedTxn IsRunnable runnable txns well
