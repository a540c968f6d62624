use Rattle.std.proofs.Common.{◌≡◌, drop, map}
use Rattle.std.specs.List.{list_all}
use Rattle.bohm_log.specs.Parts.{stmt_of}
use Rattle.bohm_txn.specs.Sure.{is_sure_stmt}
use Rattle.bohm_txn.proofs.sureness.are_sure.Given as goal

abbrev pub invariant-loop-row : goal.invariant-loop-row
invariant-loop-row l = list_all is_sure_stmt (map (stmt_of l.txn) (drop l.row-index l.txn.rows)) ≡ list_all is_sure_stmt (map (stmt_of l.txn) l.txn.rows)
