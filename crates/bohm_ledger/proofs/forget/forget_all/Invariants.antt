use Rattle.std.proofs.Common.{◌<◌, ◌^◌}
use Rattle.sqlite_trees.specs.View.{IsClean, KeepsCommitted, KeepsSchema, IsQuiet}
use Rattle.bohm_ledger.specs.Rows.{batch_tree}
use Rattle.bohm_ledger.specs.Steps.{AreYoungBefore, Forgets, IsBatchTree}
use Rattle.bohm_ledger.proofs.forget.forget_all.Given as goal

abbrev pub invariant-batches : goal.invariant-batches
invariant-batches g l =
    let old = g.S.Store.view l.fn.store in
    let now = g.S.Store.view l.store in
    record {
      small : l.place < 2 ^ 63;
      forgets : IsClean now → Forgets g.M.Machine.rules l.bound l.next old now;
      young : IsClean now → IsBatchTree g.M.Machine.rules l.bound l.next (old.trees batch_tree)
          → AreYoungBefore g.M.Machine.rules l.bound l.next l.place (now.trees batch_tree);
      kept : IsClean now → KeepsCommitted old now;
      schema : KeepsSchema old now;
      quiet : IsQuiet g.S.Store.view g.S.Store.faults g.S.Store.recovers g.S.Store.is_shielded l.fn.store l.store;
    }
