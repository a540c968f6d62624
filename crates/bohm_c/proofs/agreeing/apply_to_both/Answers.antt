use Rattle.std.proofs.Common.{◌≡◌, List, ℕ}
use Rattle.bohm_c.proofs.Alike.{Told, Ran, Refused, HasStore, Timestamps, Says, number, one_status}
use Rattle.bohm_c.proofs.agreeing.apply_to_both.Goals as goal

pub returns-clause-status : goal.returns-clause-status
returns-clause-status c alike first second = one_status c.args.one.now c.args.other.now c.apply-told.new.self c.apply.new.self c.args.text.now
    c.apply-told.new.out.now c.apply.new.out.now alike c.one_status.ensures.untaken c.one_status.ensures.formed c.one_status.ensures.read
    c.one_status.ensures.taken c.apply-told.result c.apply.result first second met met'
  where
    met : (x : Told) → c.apply-told.result ≡ number x → Says c.args.one.now c.apply-told.new.self c.args.text.now c.apply-told.new.out.now x
    met Ran e = c.apply-told.ensures.done e
    met Refused e = c.apply-told.ensures.refused e
    met HasStore e = c.apply-told.ensures.has_store e
    met Timestamps e = c.apply-told.ensures.timestamps e

    met' : (x : Told) → c.apply.result ≡ number x → Says c.args.other.now c.apply.new.self c.args.text.now c.apply.new.out.now x
    met' Ran e = c.apply.ensures.done e
    met' Refused e = c.apply.ensures.refused e
    met' HasStore e = c.apply.ensures.has_store e
    met' Timestamps e = c.apply.ensures.timestamps e

pub returns-clause-answer : goal.returns-clause-answer
returns-clause-answer c alike h k = (c.one_status.ensures.answer c.args.one.now c.args.other.now c.apply-told.new.self c.apply.new.self c.args.text.now _ _ alike
    (c.apply-told.ensures.done h) (c.apply.ensures.done k)).0

pub returns-clause-alike : goal.returns-clause-alike
returns-clause-alike c alike h k = (c.one_status.ensures.answer c.args.one.now c.args.other.now c.apply-told.new.self c.apply.new.self c.args.text.now _ _ alike
    (c.apply-told.ensures.done h) (c.apply.ensures.done k)).1

pub returns-clause-refusal : goal.returns-clause-refusal
returns-clause-refusal c h k = c.one_status.ensures.refusal c.args.text.now _ _ (c.apply-told.ensures.refused h) (c.apply.ensures.refused k)
