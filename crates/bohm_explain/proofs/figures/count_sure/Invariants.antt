use Rattle.std.proofs.Common.{◌≡◌, ◌≤◌, take, count_by}
use Rattle.bohm_txn.specs.Sure.{is_sure}
use Rattle.bohm_explain.proofs.figures.count_sure.Given as goal

abbrev pub invariant-loop-index : goal.invariant-loop-index
invariant-loop-index l = record { count : l.count ≡ count_by is_sure (take l.index l.txns); few : l.count ≤ l.index }
