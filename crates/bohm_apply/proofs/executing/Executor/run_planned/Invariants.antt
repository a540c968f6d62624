use Rattle.std.proofs.Common.{◌≡◌, ◌+◌, ◌≤◌, ◌++◌, length, take}
use Rattle.std.specs.Vec.Iter.{into_iter_items, into_iter_len}
use Rattle.bohm_place.specs.CutLogs.{cutting_of}
use Rattle.bohm_place.specs.Cuttings.{ahead}
use Rattle.bohm_txn.specs.Serial.{replies}
use Rattle.bohm_store.specs.Versions.{past}
use Rattle.bohm_apply.specs.Runs.{IsApplied}
use Rattle.bohm_apply.proofs.executing.Executor.run_planned.Given as goal

abbrev pub invariant-loop-plan : goal.invariant-loop-plan
invariant-loop-plan g l = record {
  items : l.yielded ++ into_iter_items l.plan-iterator ≡ l.fn.plans.items;
  left : into_iter_len l.plan-iterator ≡ length (into_iter_items l.plan-iterator);
  place : l.place ≡ length l.yielded;
  low : l.place ≤ l.start;
  start : l.start ≡ ahead (cutting_of l.log).sizes l.place;
  keep : l.self.keep ≡ l.fn.self.keep;
  applied : IsApplied l.fn.history l.history (take l.start (cutting_of l.log).log) l.fn.self.keep
      (replies (past l.fn.history l.fn.history.top) (take l.start (cutting_of l.log).log));
  answered : g.S.ReplySink.appended (l.fn.history.top + 1) l.fn.answered
      (replies (past l.fn.history l.fn.history.top) (take l.start (cutting_of l.log).log)) l.answered;
}
