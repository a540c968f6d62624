use Rattle.std.proofs.Common.{◌≡◌, drop}
use Rattle.bohm_txn.specs.Sure.{is_target}
use Rattle.bohm_txn.proofs.sureness.is_target.Given as goal

abbrev pub invariant-loop-index : goal.invariant-loop-index
invariant-loop-index l = is_target (drop l.index l.txn.body) l.key ≡ is_target l.txn.body l.key
