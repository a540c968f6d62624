use Rattle.std.proofs.Common.{◌≡◌, ◌+◌, ◌<◌, ◌≤◌, length}
use Rattle.bohm_text.specs.Cut.{split}
use Rattle.bohm_tidy.proofs.plain.line_at.Given as goal

abbrev pub invariant-lines : goal.invariant-lines
invariant-lines l = (l.number + length l.rest ≤ length l.fn.text + 1) × (0 < l.number) × (l.number + length (split 10 l.rest) ≡ length
    (split 10 l.fn.text) + 1)

abbrev pub decreases-lines : goal.decreases-lines
decreases-lines l = length l.rest
