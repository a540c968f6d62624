use Rattle.std.proofs.Common.{◌≡◌, ◌++◌, drop}
use Rattle.bohm_tidy.specs.Settled.{sum_reads}
use Rattle.bohm_tidy.proofs.body_keys.add_sum.Given as goal

abbrev pub invariant-loop-index : goal.invariant-loop-index
invariant-loop-index l = l.keys.items ++ sum_reads (drop l.index l.sum) ≡ l.initial.keys.items ++ sum_reads l.sum
