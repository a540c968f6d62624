use Rattle.std.proofs.Common.{subst}
use Rattle.bohm_log.specs.Drafting.{Drafted}
use Rattle.bohm_text.specs.Reading.{first_of, sum_from, terms_of}
use Rattle.bohm_text.specs.Taking.{TakesTerms}
use Rattle.bohm_text.proofs.TermLoops.{fails_up, sum_fails, sum_empty, sum_taken, took}
use Rattle.bohm_text.proofs.sums.read_sum.Goals as goal

pub returns-in_default : goal.returns-in_default
returns-in_default c = sum_empty c.args.words.now c.in_default.ensures.0

pub returns : goal.returns
returns c =
    let it = took c.args.draft.now c.take_first.new.draft (first_of c.in-Some.word) c.in_ok-take_first.ensures in
    sum_taken c.read_terms.result c.args.draft.now c.read_terms.new.draft it.0.0 it.0.1 c.args.words.now c.next_packed.new.self c.read_terms.new.words
    c.in-Some.word c.in-Some.ensures it.1
    (subst (λ (d : Drafted). TakesTerms c.read_terms.result (terms_of c.next_packed.new.self) c.read_terms.new.words d c.read_terms.new.draft) it.2
    c.read_terms.ensures)

pub returns-in_err-take_first : goal.returns-in_err-take_first
returns-in_err-take_first c =
    let fault = c.in_err-take_first.field-0.0 in
    fails_up c.from_residual.result fault (sum_from c.args.words.now) c.next_packed.new.self c.args.draft.now c.take_first.new.draft c.from_residual.ensures.1
    (sum_fails fault c.args.words.now c.next_packed.new.self c.in-Some.word c.in-Some.ensures c.in_err-take_first.ensures)
