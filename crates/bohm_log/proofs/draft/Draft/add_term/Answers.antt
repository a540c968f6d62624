use Rattle.std.proofs.Common.{ap, ◌∙◌, arith}
use Rattle.bohm_log.specs.Drafting.{with_term, Drafted}
use Rattle.bohm_log.specs.Seeing.{atom_shown}
use Rattle.bohm_log.proofs.Drafts.{names_unseen, term_added}
use Rattle.bohm_log.proofs.Failing.{on_err}
use Rattle.bohm_log.proofs.Keeping.{unseen_keeps, term_keeps}
use Rattle.bohm_log.proofs.draft.Draft.add_term.Goals as goal

pub returns-in_err-add_term-clause-err : goal.returns-in_err-add_term-clause-err
returns-in_err-add_term-clause-err g c = on_err _ (names_unseen _ _ _ _ c.in_err-add_term.ensures.err c.self.invariant.0 ∙ c.self.view_is)

pub invariant_of-self : goal.invariant_of-self
invariant_of-self g c = unseen_keeps _ _ _ _ c.in_err-add_term.ensures.err c.in_err-add_term.ensures.compact c.self.invariant

pub invariant_of-self-2 : goal.invariant_of-self-2
invariant_of-self-2 g c =
    term_keeps _ _ _ _ _ _ c.in_ok-add_term.ensures.ok c.in_ok-add_term.ensures.compact c.requires (omega arith) c.self.invariant

pub returns-clause-ok : goal.returns-clause-ok
returns-clause-ok g c =
    term_added _ _ _ _ _ _ c.in_ok-add_term.ensures.ok c.self.invariant.0
    ∙ ap (λ (d : Drafted). with_term d c.args.minus (atom_shown c.args.atom)) c.self.view_is
