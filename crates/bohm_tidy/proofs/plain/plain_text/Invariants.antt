use Rattle.std.proofs.Common.{◌≡◌, ◌≤◌, length}
use Rattle.bohm_text.specs.Cut.{split}
use Rattle.bohm_tidy.specs.Plain.{written, written_of, fed_all}
use Rattle.bohm_tidy.proofs.plain.plain_text.Given as goal

abbrev pub invariant-lines : goal.invariant-lines
invariant-lines l = (fed_all (written_of l.plain) (split 10 l.rest) ≡ written l.fn.text) × (length l.rest ≤ length l.fn.text)

abbrev pub decreases-lines : goal.decreases-lines
decreases-lines l = length l.rest
