use Rattle.std.proofs.Common.{◌≡◌, ap, subst, sym, ◌∙◌}
use Rattle.bohm_log.specs.Drafting.{Drafted}
use Rattle.bohm_text.specs.Reading.{further_of, terms_of}
use Rattle.bohm_text.specs.Signs.{end_of}
use Rattle.bohm_text.specs.Taking.{taken}
use Rattle.bohm_text.proofs.TermLoops.{fails_up, take_fails, sign_taken, terms_of-sign, take_more, take_stop, take_stop_bad, took}
use Rattle.bohm_text.proofs.sums.read_terms.Goals as goal

pub terms-preserved : goal.terms-preserved
terms-preserved c =
    let it = took c.terms.draft c.take_term.new.draft (further_of c.in-Some.minus c.in-Some-next_packed.word) c.in_ok-take_term.ensures in
    let ahead = sign_taken c.terms.ahead c.next_sign.new.self c.in-Some.minus c.in-Some.ensures.sign c.in-Some.ensures.rest in
    subst (λ (d : Drafted). taken d (terms_of c.next_packed.new.self) ≡ taken c.args.draft.now (terms_of c.args.words.now)) (sym it.2)
    (take_more c.args.draft.now c.terms.draft c.args.words.now c.terms.ahead c.terms.invariant c.next_packed.new.self it.0.0 it.0.1
    (terms_of-sign c.terms.ahead c.next_sign.new.self c.next_packed.new.self ahead.0 c.in-Some-next_packed.word c.in-Some.minus it.0
    ahead.1 c.in-Some-next_packed.ensures ahead.2 it.1))

pub returns-in_err-take_term : goal.returns-in_err-take_term
returns-in_err-take_term c =
    let fault = c.in_err-take_term.field-0.0 in
    let ahead = sign_taken c.terms.ahead c.next_sign.new.self c.in-Some.minus c.in-Some.ensures.sign c.in-Some.ensures.rest in
    fails_up c.from_residual.result fault (terms_of c.args.words.now) c.args.words.now c.args.draft.now c.take_term.new.draft c.from_residual.ensures.1
    (take_fails c.args.draft.now c.terms.draft c.args.words.now c.terms.ahead c.terms.invariant fault
    c.next_sign.new.self c.next_packed.new.self ahead.0 c.in-Some-next_packed.word c.in-Some.minus ahead.1
    c.in-Some-next_packed.ensures (sym ahead.2) c.in_err-take_term.ensures)

pub returns-in_default-read_end : goal.returns-in_default-read_end
returns-in_default-read_end c =
    take_stop_bad c.args.draft.now c.terms.draft c.args.words.now c.terms.ahead c.terms.invariant
    (sym c.in_default.ensures.sign) (ap end_of (sym c.in_default.ensures.rest) ∙ c.in_default-read_end.ensures)

pub returns : goal.returns
returns c =
    take_stop c.args.draft.now c.terms.draft c.args.words.now c.terms.ahead c.terms.invariant c.read_end.new.words c.in-Some-read_end.stop
    (sym c.in_default.ensures.sign) (ap end_of (sym c.in_default.ensures.rest) ∙ c.in-Some-read_end.ensures)
