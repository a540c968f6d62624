use Rattle.std.proofs.Common.{◌≡◌, ◌++◌, map, IsSome}
use Rattle.sqlite_trees.specs.View.{IsClean, IsQuiet}
use Rattle.bohm_ledger.specs.Rows.{balance_tree, balance_row}
use Rattle.bohm_ledger.specs.Steps.{left_of, OnlyReads}
use Rattle.bohm_ledger.proofs.load.load_balance.Given as goal

abbrev pub invariant-rows : goal.invariant-rows
invariant-rows g l =
    let old = g.S.Store.view l.fn.store in
    let now = g.S.Store.view l.store in
    record {
      live : IsSome (now.cursors 0);
      reads : IsClean now → OnlyReads old now;
      quiet : IsQuiet g.S.Store.view g.S.Store.faults g.S.Store.recovers g.S.Store.is_shielded l.fn.store l.store;
      so_far : IsClean now → old.trees balance_tree ≡ map balance_row l.balance.items ++ left_of now 0;
    }
