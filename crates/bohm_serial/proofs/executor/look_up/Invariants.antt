use Rattle.std.proofs.Common.{◌≡◌, ◌++◌, map, drop}
use Rattle.bohm_txn.specs.Stores.{cell_in}
use Rattle.bohm_serial.proofs.executor.look_up.Given as goal

abbrev pub invariant-loop-place : goal.invariant-loop-place
invariant-loop-place l = l.cells.items ++ map (cell_in l.store) (drop l.place l.keys) ≡ map (cell_in l.store) l.keys
