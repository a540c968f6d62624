use Rattle.std.proofs.Common.{sym, ◌∙◌}
use Rattle.bohm_uses.proofs.Agreeing.{both_ok, both_err, ok_err}
use Rattle.bohm_uses.proofs.replicas.answer_twice.Goals as goal

pub returns-clause-answers : goal.returns-clause-answers
returns-clause-answers g c =
    both_ok c.answer.result c.answer-2.result _ _ _ c.answer.ensures.ok c.answer-2.ensures.ok
    (λ a b h k. (let same = c.one_answer.ensures.answer c.args.one c.args.other c.args.text.now h.0 k.0 _ _ _ _ c.requires h.1 k.1 in
    same.first ∙ sym same.second))

pub returns-clause-refusals : goal.returns-clause-refusals
returns-clause-refusals g c =
    both_err c.answer.result c.answer-2.result _ _ _ c.answer.ensures.err c.answer-2.ensures.err
    (λ e f h k of of'. c.one_answer.ensures.refusal c.args.one c.args.other c.args.text.now h.0 k.0 _ h.1 _ k.1 e f c.requires of of' h.2 k.2)

pub returns-clause-either : goal.returns-clause-either
returns-clause-either g c =
    ok_err c.answer.result c.answer-2.result _ _ _ c.answer.ensures.ok c.answer-2.ensures.err
    (λ a f h k of. c.one_answer.ensures.either c.args.one c.args.other c.args.text.now h.0 k.0 _ _ _ k.1 f c.requires of h.1 k.2)
