use Rattle.std.proofs.Common.{◌≡◌, drop}
use Rattle.bohm_txn.specs.FirstFault.{first_from, find_txn, first_in_log}
use Rattle.bohm_txn.proofs.first_fault.first_in_log.Given as goal

abbrev pub invariant-loop-i : goal.invariant-loop-i
invariant-loop-i l = first_from find_txn l.i (drop l.i l.log) ≡ first_in_log l.log
