use Rattle.bohm_text.proofs.WholeTxns.{smaller_term, sum_begun, sum_more}
use Rattle.bohm_text.proofs.whole_sums.take_terms.Goals as goal

pub terms-init : goal.terms-init
terms-init c = sum_begun c.args.text.now c.in-Some.first.now c.in-Some-take_first_at.others.now c.args.draft.now c.take_first_at.new.draft
    c.in-Some.ensures.some c.in-Some-take_first_at.ensures

pub terms-smaller : goal.terms-smaller
terms-smaller c = smaller_term c.in-Some-sign_at.minus c.terms.rest.now c.in-Some-sign_at.term.now c.in-Some-take_term_at.others.now
    c.terms.draft c.take_term_at.new.draft c.in-Some-sign_at.ensures c.in-Some-take_term_at.ensures

pub terms-preserved : goal.terms-preserved
terms-preserved c = sum_more c.args.text.now c.terms.rest.now c.in-Some-sign_at.term.now c.in-Some-take_term_at.others.now c.args.draft.now
    c.terms.draft c.take_term_at.new.draft c.in-Some-sign_at.minus c.terms.invariant c.in-Some-sign_at.ensures c.in-Some-take_term_at.ensures

pub returns : goal.returns
returns c = c.terms.invariant
