use Rattle.std.proofs.Common.{◌≡◌, ◌++◌, drop}
use Rattle.bohm_tidy.specs.Settled.{body_reads}
use Rattle.bohm_tidy.proofs.body_keys.add_body_reads.Given as goal

abbrev pub invariant-loop-index : goal.invariant-loop-index
invariant-loop-index l = l.keys.items ++ body_reads (drop l.index l.txn.body) ≡ l.initial.keys.items ++ body_reads l.txn.body
