-- A run has a reply for each transaction.
use Rattle.std.proofs.Common.{◌≡◌, length}
use Rattle.bohm_types.specs.Document.{Document}
use Rattle.bohm_txn.specs.Serial.{replies}
use Rattle.bohm_txn.specs.Stores.{cell_in, store_of}
use Rattle.bohm_txn.proofs.ForCallers.{length-replies}

pub as_many : (d : Document) → length (replies (cell_in (store_of d.store)) d.log) ≡ length d.log
as_many d = length-replies (cell_in (store_of d.store)) d.log
