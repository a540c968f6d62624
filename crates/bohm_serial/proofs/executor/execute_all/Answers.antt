use Rattle.std.proofs.Common.{◌≡◌, Some, refl}
use Rattle.std.specs.List.{slice_get}
use Rattle.bohm_txn.specs.Meaning.{body}
use Rattle.bohm_txn.specs.Serial.{reply_of}
use Rattle.bohm_txn.specs.Stores.{cell_in}
use Rattle.bohm_serial.proofs.Steps.{replies_more, store_after_more}
use Rattle.bohm_serial.proofs.executor.execute_all.Goals as goal

pub loop-index-preserved : goal.loop-index-preserved
loop-index-preserved c =
    let i = c.loop-index.index in
    let here : slice_get c.args.log.now i ≡ Some c.txn.result = c.txn.ensures in
    record {
      told = rw c.in_ok-execute.ensures.reply (replies_more c.loop-index.store c.execute.new.store c.args.log.now i c.txn.result
          (reply_of (body (cell_in c.loop-index.store) c.txn.result)) c.loop-index.list _ here refl c.in_ok-execute.ensures.store
          c.loop-index.invariant.told);
      left = store_after_more c.loop-index.store c.execute.new.store c.args.log.now i c.txn.result _ here c.in_ok-execute.ensures.store
          c.loop-index.invariant.left;
    }
