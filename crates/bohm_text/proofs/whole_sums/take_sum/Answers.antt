use Rattle.bohm_text.proofs.WholeTxns.{sum_sliced}
use Rattle.bohm_text.proofs.whole_sums.take_sum.Goals as goal

pub returns : goal.returns
returns c = sum_sliced c.in-Some.size c.args.text.now c.args.draft.now c.take_sum_size.new.draft c.in-Some.ensures.read
