use Rattle.std.proofs.Common.{◌≡◌, drop}
use Rattle.std.specs.List.{list_all}
use Rattle.bohm_txn.specs.Sure.{is_target}
use Rattle.bohm_txn.proofs.sureness.are_targets.Given as goal

abbrev pub invariant-loop-place : goal.invariant-loop-place
invariant-loop-place l = list_all (is_target l.txn.body) (drop l.place l.txn.writes) ≡ list_all (is_target l.txn.body) l.txn.writes
