use Rattle.std.proofs.Common.{take}
use Rattle.sqlite_trees.specs.View.{IsClean, KeepsCommitted, KeepsSchema, IsQuiet}
use Rattle.bohm_ledger.specs.Rows.{balance_tree}
use Rattle.bohm_ledger.specs.Ledgers.{IsBalance}
use Rattle.bohm_ledger.specs.Steps.{Rebalances, with_keys}
use Rattle.bohm_ledger.proofs.balance.put_changed.Given as goal

abbrev pub invariant-loop-key : goal.invariant-loop-key
invariant-loop-key g l =
    let old = g.S.Store.view l.fn.store in
    let now = g.S.Store.view l.store in
    record {
      balance : IsClean now → IsBalance (g.M.Machine.saved l.machine) (old.trees balance_tree)
          → Rebalances old now (with_keys (g.M.Machine.state l.machine).look (take l.key-index l.key-items) (g.M.Machine.saved l.machine));
      kept : IsClean now → KeepsCommitted old now;
      schema : KeepsSchema old now;
      quiet : IsQuiet g.S.Store.view g.S.Store.faults g.S.Store.recovers g.S.Store.is_shielded l.fn.store l.store;
    }
