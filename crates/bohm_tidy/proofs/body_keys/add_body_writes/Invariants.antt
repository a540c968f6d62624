use Rattle.std.proofs.Common.{◌≡◌, ◌++◌, drop}
use Rattle.bohm_tidy.specs.Settled.{body_writes}
use Rattle.bohm_tidy.proofs.body_keys.add_body_writes.Given as goal

abbrev pub invariant-loop-index : goal.invariant-loop-index
invariant-loop-index l = l.keys.items ++ body_writes (drop l.index l.txn.body) ≡ l.initial.keys.items ++ body_writes l.txn.body
