use Rattle.std.proofs.Common.{refl, sym, ◌∙◌}
use Rattle.bohm_request_text.proofs.Cutting as lemma
use Rattle.bohm_request_text.proofs.request.split_request.Goals as goal

pub lines-init : goal.lines-init
lines-init c = lemma.nothing_passed c.args.text.now

pub lines-preserved : goal.lines-preserved
lines-preserved c = lemma.one_passed c.args.text.now c.lines.rest.now c.in-Some.line.now c.in-Some.others.now c.lines.is_open c.lines.invariant
    c.in-Some.ensures.bytes c.in-Some.ensures.lines (sym c.goes_on.ensures ∙ c.if-not-goes_on.false)

pub returns-then-not-goes_on-clause-requests : goal.returns-then-not-goes_on-clause-requests
returns-then-not-goes_on-clause-requests c = (lemma.cut_after c.args.text.now c.lines.rest.now c.in-Some.line.now c.in-Some.others.now c.lines.is_open _
    c.lines.invariant c.in-Some.ensures.bytes c.in-Some.ensures.lines (sym c.goes_on.ensures ∙ c.if-not-goes_on.true) refl).requests

pub returns-then-not-goes_on-clause-bytes : goal.returns-then-not-goes_on-clause-bytes
returns-then-not-goes_on-clause-bytes c = (lemma.cut_after c.args.text.now c.lines.rest.now c.in-Some.line.now c.in-Some.others.now c.lines.is_open _
    c.lines.invariant c.in-Some.ensures.bytes c.in-Some.ensures.lines (sym c.goes_on.ensures ∙ c.if-not-goes_on.true) refl).bytes

pub returns-clause-requests : goal.returns-clause-requests
returns-clause-requests c = lemma.none_left c.args.text.now c.lines.rest.now c.lines.is_open c.lines.invariant c.in_default.ensures.none
