use Rattle.std.proofs.Common.{◌≡◌, ◌+◌, ◌≤◌, drop, length, map}
use Rattle.bohm_txn.specs.Tables.{start, tables_from}
use Rattle.bohm_shapes.specs.Calls.{txn_of}
use Rattle.bohm_shapes.specs.Filled.{stmt_filled}
use Rattle.bohm_shapes.specs.Running.{tables_of, Fits, IsRoomy, StepsIn}
use Rattle.bohm_shapes.proofs.running.run.Given as goal

abbrev pub invariant-loop-row : goal.invariant-loop-row
invariant-loop-row l =
    let names = l.call.shape.now.locals.items in
    let keys = l.call.keys.now in
    let steps = l.call.shape.now.steps.items in
    let txn = txn_of l.call in
    record {
      fits : Fits names keys l.work;
      within : StepsIn names (length keys) (length l.work.locals.0) (drop l.row-index steps);
      number : l.number ≡ length l.call.values.now + l.row-index;
      locals : length l.work.locals.0 ≤ l.number;
      shows : length l.work.shows.0 ≤ l.row-index;
      room : IsRoomy l.work;
      so_far : tables_from txn (tables_of names l.work) (l.number + 1) (map (stmt_filled names keys) (drop l.row-index steps)) ≡ tables_from
          txn (start l.fn.work.cells.0 l.fn.work.cells.0) 1 txn.body;
    }
