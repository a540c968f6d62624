use Rattle.bohm_text.proofs.WholeTxns.{cond_read}
use Rattle.bohm_text.proofs.whole_sums.take_cond.Goals as goal

pub returns : goal.returns
returns c =
    cond_read c.in-Some-cmp_at.cmp c.args.text.now c.in-Some.left.now c.in-Some-cmp_at.right.now c.in-Some-take_sum.rest.now c.args.draft.now
    c.take_sum.new.draft c.next_sum.new.self c.take_sum-2.new.draft c.in-Some.ensures c.in-Some-cmp_at.ensures c.in-Ok.ensures.ok c.in-Some-take_sum.ensures
