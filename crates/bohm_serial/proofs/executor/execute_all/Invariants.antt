use Rattle.std.proofs.Common.{◌≡◌, ◌++◌, drop}
use Rattle.bohm_txn.specs.Serial.{replies}
use Rattle.bohm_txn.specs.Stores.{cell_in, store_after}
use Rattle.bohm_serial.proofs.executor.execute_all.Given as goal

-- the replies so far, followed by those of the transactions left, are the replies of the log
abbrev pub invariant-loop-index : goal.invariant-loop-index
invariant-loop-index l = record {
  told : l.list ++ replies (cell_in l.store) (drop l.index l.log) ≡ replies (cell_in l.initial.store) l.log;
  left : store_after l.store (drop l.index l.log) ≡ store_after l.initial.store l.log;
}
