use Rattle.std.proofs.Common.{◌≡◌, drop}
use Rattle.std.specs.List.{zip}
use Rattle.bohm_txn.specs.Stores.{put_all}
use Rattle.bohm_serial.proofs.executor.put_cells.Given as goal

abbrev pub invariant-loop-place : goal.invariant-loop-place
invariant-loop-place l = put_all l.store (zip (drop l.place l.keys) (drop l.place l.cells)) ≡ put_all l.initial.store (zip l.keys l.cells)
