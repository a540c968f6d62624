use Rattle.std.proofs.Common.{◌∙◌, ap, map}
use Rattle.bohm_log.specs.Parts.{sum_between, term_of}
use Rattle.bohm_txn.specs.Literals.{none_yet, literals_from}
use Rattle.bohm_txn.proofs.LiteralLaws.{sure_literals, no_literals}
use Rattle.bohm_txn.proofs.sureness.is_sure_sum.Goals as goal

pub returns-in-Some : goal.returns-in-Some
returns-in-Some c = c.is_in_range.ensures ∙ sure_literals (sum_between c.args.txn.now c.args.from c.args.to) c.in-Some.literals
    (c.in-Some.ensures.value ∙ ap (λ ts. literals_from none_yet (map (term_of c.args.txn.now) ts)) c.terms.ensures.terms)

pub returns-in-None : goal.returns-in-None
returns-in-None c = no_literals (sum_between c.args.txn.now c.args.from c.args.to)
    (c.in-None.ensures.value ∙ ap (λ ts. literals_from none_yet (map (term_of c.args.txn.now) ts)) c.terms.ensures.terms)
