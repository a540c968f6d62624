use Rattle.std.proofs.Common.{◌≡◌, drop, map, take}
use Rattle.bohm_types.specs.declared.edition.Edition.{Edition}
use Rattle.bohm_log.specs.Parts.{stmt_of, txn_of}
use Rattle.bohm_txn.specs.FirstFault.{first_from, find_stmt, first_in_body}
use Rattle.bohm_txn.specs.Rows.{AreNoted}
use Rattle.bohm_txn.proofs.first_fault.first_in_body.Given as goal

abbrev pub invariant-loop-i : goal.invariant-loop-i
invariant-loop-i l =
    ((e : Edition) → first_from (find_stmt (txn_of e l.txn)) l.i (map (stmt_of l.txn) (drop l.i l.rows)) ≡ first_in_body (txn_of e l.txn))
    × AreNoted l.bound.noted (take l.i l.rows)
