use Rattle.std.proofs.Common.{◌≡◌, ◌≤◌, length}
use Rattle.bohm_text.specs.Cut.{split}
use Rattle.bohm_tidy.specs.Plain.{first_words, without_mark}
use Rattle.bohm_tidy.proofs.procedure.first_words.Given as goal

abbrev pub invariant-lines : goal.invariant-lines
invariant-lines l = record {
  words : first_words (split 10 l.rest) ≡ first_words (split 10 (without_mark l.fn.text));
  none : length l.exact.items ≡ 0;
  shorter : length l.rest ≤ length l.fn.text;
}

abbrev pub decreases-lines : goal.decreases-lines
decreases-lines l = length l.rest
