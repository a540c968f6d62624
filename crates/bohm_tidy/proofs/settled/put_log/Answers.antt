use Rattle.bohm_tidy.proofs.Settling.{log_more}
use Rattle.bohm_tidy.proofs.settled.put_log.Goals as goal

pub loop-index-preserved : goal.loop-index-preserved
loop-index-preserved c = log_more c.loop-index.reads.now c.loop-index.writes.now _ _ c.args.log.now c.loop-index.index c.txn.result _ _ c.loop-index.out.items
    _ _ c.txn.ensures c.split_flag-no_read.ensures.first c.split_flag-no_write.ensures.first c.split_flag-no_read.ensures.others
    c.split_flag-no_write.ensures.others c.in_ok-put_txn.ensures c.loop-index.invariant
