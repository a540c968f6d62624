use Rattle.std.proofs.Common.{length}
use Rattle.bohm_text.specs.Transactions.{SumRead}
use Rattle.bohm_text.proofs.whole_sums.take_terms.Given as goal

abbrev pub invariant-terms : goal.invariant-terms
invariant-terms l = SumRead l.fn.text l.rest l.fn.draft l.draft

abbrev pub decreases-terms : goal.decreases-terms
decreases-terms l = length l.rest
