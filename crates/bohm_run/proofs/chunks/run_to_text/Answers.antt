use Rattle.bohm_txn.specs.Serial.{replies}
use Rattle.bohm_store.specs.Versions.{past}
use Rattle.bohm_run.proofs.chunks.run_to_text.Goals as goal

pub returns : goal.returns
returns c =
    let was = c.args.history.now in
    record {
      answered = replies (past was was.top) c.args.txns.now;
      applied = c.in_ok-run.ensures.applied;
      wrote = c.in_ok-run.ensures.answered;
    }
