use Rattle.std.proofs.Common.{length}
use Rattle.bohm_entries.proofs.Cutting.{Passed}
use Rattle.bohm_entries.proofs.batch.split_entry.Given as goal

abbrev pub invariant-lines : goal.invariant-lines
invariant-lines l = Passed l.fn.text l.rest

abbrev pub decreases-lines : goal.decreases-lines
decreases-lines l = length l.rest
