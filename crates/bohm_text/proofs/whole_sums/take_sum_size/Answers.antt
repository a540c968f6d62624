use Rattle.bohm_text.proofs.WholeTxns.{sum_behind}
use Rattle.bohm_text.proofs.whole_sums.take_sum_size.Goals as goal

pub returns-clause-read : goal.returns-clause-read
returns-clause-read c = sum_behind c.args.text.now c.in-Some.rest.now c.args.draft.now c.take_terms.new.draft c.in-Some.ensures
