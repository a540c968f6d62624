use Rattle.std.proofs.Common.{◌≡◌, ◌+◌, ◌≤◌, drop, length, map}
use Rattle.bohm_log.specs.Parts.{stmt_of, txn_of}
use Rattle.bohm_txn.specs.Declares.{shows_in}
use Rattle.bohm_txn.specs.Room.{tables_of, IsRoomy, IsSized}
use Rattle.bohm_txn.specs.Tables.{start, tables_from}
use Rattle.bohm_txn.proofs.work.Work.run_in_place.Given as goal

abbrev pub invariant-loop-i : goal.invariant-loop-i
invariant-loop-i l =
    let txn = txn_of l.edition l.txn in
    record {
      room : IsRoomy l.self;
      sized : IsSized txn l.self;
      locals : length l.self.locals.0 ≤ l.i;
      shows : length l.self.shows.0 + shows_in (map (stmt_of l.txn) (drop l.i l.txn.rows)) ≤ 16;
      so_far : tables_from txn (tables_of l.self) (l.i + 1) (map (stmt_of l.txn) (drop l.i l.txn.rows)) ≡ tables_from txn
          (start l.initial.self.seen.0 l.initial.self.cells.0) 1 txn.body;
    }
