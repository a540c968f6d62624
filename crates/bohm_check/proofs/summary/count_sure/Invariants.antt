use Rattle.std.proofs.Common.{◌≡◌, ◌+◌, ◌≤◌, drop, count_by}
use Rattle.bohm_txn.specs.Sure.{is_sure}
use Rattle.bohm_check.proofs.summary.count_sure.Given as goal

abbrev pub invariant-loop-index : goal.invariant-loop-index
invariant-loop-index l = (l.count + count_by is_sure (drop l.index l.log) ≡ count_by is_sure l.log) × (l.count ≤ l.index)
