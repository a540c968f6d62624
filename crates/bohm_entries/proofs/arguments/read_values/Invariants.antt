use Rattle.std.proofs.Common.{◌≡◌, length}
use Rattle.bohm_entries.specs.Batches.{values_of}
use Rattle.bohm_entries.proofs.Reading.{with_front}
use Rattle.bohm_entries.proofs.arguments.read_values.Given as goal

abbrev pub invariant-words : goal.invariant-words
invariant-words l = with_front l.values.items (values_of l.rest) ≡ values_of l.fn.words

abbrev pub decreases-words : goal.decreases-words
decreases-words l = length l.rest
