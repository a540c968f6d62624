use Rattle.std.proofs.Common.{◌≡◌, ap, sym, ◌∙◌, arith}
use Rattle.bohm_types.specs.Term.{Lit}
use Rattle.bohm_types.specs.Sound.{IsTerm}
use Rattle.bohm_log.specs.Drafting.{with_term, Drafted}
use Rattle.bohm_log.proofs.Drafts.{names_unseen, term_added}
use Rattle.bohm_log.proofs.Failing.{on_err}
use Rattle.bohm_log.proofs.Keeping.{unseen_keeps, term_keeps}
use Rattle.bohm_log.proofs.draft.Draft.literal.Goals as goal

pub returns-in_err-add_small-clause-err : goal.returns-in_err-add_small-clause-err
returns-in_err-add_small-clause-err g c = on_err _ (names_unseen _ _ _ _ c.in_err-add_small.ensures.err c.self.invariant.0 ∙ c.self.view_is)

pub invariant_of-self : goal.invariant_of-self
invariant_of-self g c = unseen_keeps _ _ _ _ c.in_err-add_small.ensures.err c.in_err-add_small.ensures.compact c.self.invariant

pub invariant_of-self-2 : goal.invariant_of-self-2
invariant_of-self-2 g c =
    let same : c.in-Ok.small ≡ c.parts-minus.result.1 = omega (arith, c.in-Ok.ensures) in
    let sound : IsTerm (c.parts-minus.result.0, Lit c.in-Ok.small) = rw same c.parts-minus.ensures.sound in
    term_keeps _ _ _ _ _ _ c.in_ok-add_small.ensures.ok c.in_ok-add_small.ensures.compact sound (omega arith) c.self.invariant

pub returns-clause-ok : goal.returns-clause-ok
returns-clause-ok g c =
    let same : c.in-Ok.small ≡ c.parts-minus.result.1 = omega (arith, c.in-Ok.ensures) in
    term_added _ _ _ _ _ _ c.in_ok-add_small.ensures.ok c.self.invariant.0
    ∙ ap (λ (d : Drafted). with_term d c.parts-minus.result.0 (Lit c.in-Ok.small)) c.self.view_is
    ∙ ap (λ n. with_term c.args.self.now c.parts-minus.result.0 (Lit n)) same
    ∙ ap (λ t. with_term c.args.self.now t.0 t.1) (sym c.parts-minus.ensures.same)
