use Rattle.std.proofs.Common.{◌≡◌, take}
use Rattle.bohm_txn.specs.Stores.{store_of}
use Rattle.bohm_serial.proofs.store.Store.new.Given as goal

abbrev pub invariant-loop-key : goal.invariant-loop-key
invariant-loop-key l = store_of l.values.entries ≡ store_of (take l.key-index l.entries)
