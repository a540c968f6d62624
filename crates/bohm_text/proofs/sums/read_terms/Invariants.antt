use Rattle.std.proofs.Common.{◌≡◌, length}
use Rattle.bohm_text.specs.Reading.{terms_of}
use Rattle.bohm_text.specs.Taking.{taken}
use Rattle.bohm_text.proofs.sums.read_terms.Given as goal

abbrev pub invariant-terms : goal.invariant-terms
invariant-terms l = taken l.draft (terms_of l.ahead) ≡ taken l.fn.draft (terms_of l.fn.words)

abbrev pub decreases-terms : goal.decreases-terms
decreases-terms l = length l.ahead
