use Rattle.std.proofs.Common.{◌+◌, take}
use Rattle.bohm_txn.specs.Serial.{replies}
use Rattle.bohm_store.specs.Versions.{past}
use Rattle.bohm_apply.specs.Runs.{IsApplied, NoneEarlier}
use Rattle.bohm_apply.proofs.serial_executor.SerialExecutor.run.Given as goal

abbrev pub invariant-loop-index : goal.invariant-loop-index
invariant-loop-index g l = record {
  applied : IsApplied l.initial.history l.history (take l.index l.txns) l.keep
      (replies (past l.initial.history l.initial.history.top) (take l.index l.txns));
  earlier : NoneEarlier l.initial.history l.history;
  answered : g.S.ReplySink.appended (l.initial.history.top + 1) l.fn.answered
      (replies (past l.initial.history l.initial.history.top) (take l.index l.txns)) l.answered;
}
