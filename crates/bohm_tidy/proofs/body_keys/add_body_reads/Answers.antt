use Rattle.bohm_tidy.specs.Settled.{stmt_reads}
use Rattle.bohm_tidy.proofs.Lists.{gather_more}
use Rattle.bohm_tidy.proofs.body_keys.add_body_reads.Goals as goal

pub loop-index-preserved : goal.loop-index-preserved
loop-index-preserved c = gather_more stmt_reads c.args.txn.now.body c.loop-index.index c.stmt.result _ _ _ c.stmt.ensures c.in_ok-add_stmt.ensures
    c.loop-index.invariant
