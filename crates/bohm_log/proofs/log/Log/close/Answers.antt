use Rattle.std.proofs.Common.{◌++◌, ◌∷◌, [], ◌∙◌, ap}
use Rattle.bohm_log.specs.declared.columns.Ends.{Ends}
use Rattle.bohm_log.specs.Columns.{shared_of, cut_to}
use Rattle.bohm_log.proofs.Measuring.{adds_closed, log_longer, view_longer, log_back, view_back}
use Rattle.bohm_log.proofs.log.Log.close.Goals as goal

pub invariant_of-self-in-Err : goal.invariant_of-self-in-Err
invariant_of-self-in-Err g c =
    log_back (shared_of c.self.inside.columns) (shared_of c.append-head.new.self) _ _ _ _ _
    (c.cut_back.ensures ∙ ap (λ (e : Ends). cut_to e (shared_of c.append-head.new.self)) c.ends-ends.ensures) c.in-Err.ensures.err
    c.append-head.result c.append-head.ensures.ok c.append-head.ensures.err c.self.invariant

pub returns-in-Err-clause-err : goal.returns-in-Err-clause-err
returns-in-Err-clause-err g c =
    view_back (shared_of c.self.inside.columns) (shared_of c.append-head.new.self) _ _ _ _ _
    (c.cut_back.ensures ∙ ap (λ (e : Ends). cut_to e (shared_of c.append-head.new.self)) c.ends-ends.ensures) c.in-Err.ensures.err
    c.append-head.result c.append-head.ensures.ok c.append-head.ensures.err
    ∙ c.self.view_is

pub invariant_of-self : goal.invariant_of-self
invariant_of-self g c =
    log_longer (shared_of c.self.inside.columns) (shared_of c.append-head.new.self) _ _ _ _ _
    (adds_closed _ _ c.args.draft.now c.parts-edition.ensures.same c.parts-edition.ensures.within c.append-head.ensures.apart c.parts-edition.ensures.sound
    (c.is_open.ensures.whole c.if-is_open.false) c.parts-edition.ensures.counted)
    c.self.invariant c.append-head.result c.in-Ok.ensures.ok c.append-head.ensures.ok

pub returns-in-Ok-clause-ok : goal.returns-in-Ok-clause-ok
returns-in-Ok-clause-ok g c =
    view_longer (shared_of c.self.inside.columns) (shared_of c.append-head.new.self) _ _ _ _ _
    (adds_closed _ _ c.args.draft.now c.parts-edition.ensures.same c.parts-edition.ensures.within c.append-head.ensures.apart c.parts-edition.ensures.sound
    (c.is_open.ensures.whole c.if-is_open.false) c.parts-edition.ensures.counted)
    c.self.invariant c.append-head.result c.in-Ok.ensures.ok c.append-head.ensures.ok
    ∙ (λ i. c.self.view_is i ++ c.args.draft.now.txn ∷ [])
