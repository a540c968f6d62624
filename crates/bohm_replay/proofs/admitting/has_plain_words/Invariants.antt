use Rattle.std.proofs.Common.{◌≡◌, length}
use Rattle.std.specs.List.{list_all}
use Rattle.bohm_text.specs.Cut.{split}
use Rattle.bohm_entries.specs.Refusals.{is_word}
use Rattle.bohm_replay.proofs.admitting.has_plain_words.Given as goal

abbrev pub invariant-words : goal.invariant-words
invariant-words l = list_all is_word l.rest ≡ list_all is_word (split 32 l.line)

abbrev pub decreases-words : goal.decreases-words
decreases-words l = length l.rest
