use Rattle.std.proofs.Common.{◌≡◌, length}
use Rattle.std.specs.Option.{option_map}
use Rattle.bohm_log.specs.Drafting.{IsBare}
use Rattle.bohm_text.specs.Reading.{keys_of}
use Rattle.bohm_text.specs.Taking.{with_reads}
use Rattle.bohm_text.proofs.statements.read_reads.Given as goal

abbrev pub invariant-words : goal.invariant-words
invariant-words l = record {
  bare : IsBare l.draft;
  so_far : option_map (with_reads l.draft) (keys_of l.words) ≡ option_map (with_reads l.fn.draft) (keys_of l.fn.words);
}

abbrev pub decreases-words : goal.decreases-words
decreases-words l = length l.words
