use Rattle.std.proofs.Common.{◌≡◌, length}
use Rattle.bohm_entries.specs.Batches.{are_plain, entries_of}
use Rattle.bohm_entries.proofs.batch.has_no_definition.Given as goal

abbrev pub invariant-entries : goal.invariant-entries
invariant-entries l = are_plain (entries_of l.rest) ≡ are_plain (entries_of l.fn.batch)

abbrev pub decreases-entries : goal.decreases-entries
decreases-entries l = length l.rest
