use Rattle.std.proofs.Common.{ap, refl, ◌∙◌, arith}
use Rattle.bohm_types.specs.Term.{Read}
use Rattle.bohm_log.specs.Drafting.{with_term, Drafted}
use Rattle.bohm_log.proofs.Drafts.{names_unseen, term_added}
use Rattle.bohm_log.proofs.Failing.{on_err}
use Rattle.bohm_log.proofs.Keeping.{unseen_keeps, term_keeps}
use Rattle.bohm_log.proofs.draft.Draft.read_again.Goals as goal

pub returns-in_err-add_read_at-clause-err : goal.returns-in_err-add_read_at-clause-err
returns-in_err-add_read_at-clause-err g c = on_err _ (names_unseen _ _ _ _ c.in_err-add_read_at.ensures.err c.self.invariant.0 ∙ c.self.view_is)

pub invariant_of-self : goal.invariant_of-self
invariant_of-self g c = unseen_keeps _ _ _ _ c.in_err-add_read_at.ensures.err c.in_err-add_read_at.ensures.compact c.self.invariant

pub invariant_of-self-2 : goal.invariant_of-self-2
invariant_of-self-2 g c =
    let name = c.read_place.ensures.name (rw c.in-Some.is refl) in
    term_keeps _ _ _ _ _ _ c.in_ok-add_read_at.ensures.ok c.in_ok-add_read_at.ensures.compact (refl, name) (omega arith) c.self.invariant

pub returns-clause-added : goal.returns-clause-added
returns-clause-added g c =
    λ _. term_added _ _ _ _ _ _ c.in_ok-add_read_at.ensures.ok c.self.invariant.0
    ∙ ap (λ (d : Drafted). with_term d c.args.minus (Read c.args.word.now)) c.self.view_is
