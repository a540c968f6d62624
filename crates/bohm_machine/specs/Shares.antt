-- Calls that workers share.
use Rattle.std.specs.Prelude.{ℕ, List, length, Bool, ◌&&◌, nat_le, None}
use Rattle.bohm_types.specs.Document.{Document}
use Rattle.bohm_types.specs.Limits.{largest_batch}
use Rattle.bohm_types.specs.Txn.{Txn}
use Rattle.bohm_settings.specs.Given.{Given, most_workers}
use Rattle.bohm_read_ahead.specs.Sharing.{is_shared}
use Rattle.bohm_store.specs.Versions.{Timeline}

-- the machine after whose top calls run, and the calls
pub record Shared : Type 0 where
  pub was : Timeline
  pub calls : Document

-- this many workers, for batches of the largest size
abbrev pub largest_for : ℕ → Given
largest_for workers = record { cc = 1; exec = workers; parts = 1; batch = largest_batch; keep = 0; at = None }

-- they are one batch, there are not too many workers, and these execute the batch as a part of a log
abbrev pub are_shared : ℕ → List Txn → Bool
are_shared workers txns =
    ((nat_le 1 (length txns) && nat_le (length txns) largest_batch) && nat_le workers most_workers) && is_shared (largest_for workers) txns
