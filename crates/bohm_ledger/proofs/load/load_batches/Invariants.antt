use Rattle.std.proofs.Common.{◌≡◌, ◌<◌, ◌^◌, IsSome}
use Rattle.sqlite_trees.specs.View.{IsClean, IsQuiet}
use Rattle.bohm_ledger.specs.Rows.{batch_tree}
use Rattle.bohm_ledger.specs.Loading.{Fit, loaded, next_place}
use Rattle.bohm_ledger.specs.Steps.{left_of, OnlyReads}
use Rattle.bohm_ledger.proofs.load.load_batches.Given as goal

abbrev pub invariant-rows : goal.invariant-rows
invariant-rows g l =
    let old = g.S.Store.view l.fn.store in
    let now = g.S.Store.view l.store in
    let rules = g.M.Machine.rules in
    record {
      live : IsSome (now.cursors 0);
      small : l.place < 2 ^ 63;
      reads : IsClean now → OnlyReads old now;
      quiet : IsQuiet g.S.Store.view g.S.Store.faults g.S.Store.recovers g.S.Store.is_shielded l.fn.store l.store;
      saved : g.M.Machine.saved l.machine ≡ g.M.Machine.saved l.fn.machine;
      state : IsClean now → loaded rules l.checkpoint (g.M.Machine.state l.machine) (left_of now 0) ≡ loaded rules l.checkpoint
          (g.M.Machine.state l.fn.machine) (old.trees batch_tree);
      place : IsClean now → next_place l.place (left_of now 0) ≡ next_place 1 (old.trees batch_tree);
      fit : IsClean now → Fit rules l.checkpoint (g.M.Machine.state l.fn.machine) (old.trees batch_tree)
          → Fit rules l.checkpoint (g.M.Machine.state l.machine) (left_of now 0);
    }
