use Rattle.std.proofs.Common.{ap, sym, subst, ◌∙◌}
use Rattle.bohm_log.specs.Drafting.{Drafted, IsBare, with_write}
use Rattle.bohm_log.proofs.Drafts.{unchanged, declared}
use Rattle.bohm_log.proofs.Failing.{on_err}
use Rattle.bohm_log.proofs.Keeping.{KeepsTo, declared_keeps}
use Rattle.bohm_log.proofs.SoundDrafts.{sound_write}
use Rattle.bohm_log.proofs.draft.Draft.write.Goals as goal

pub invariant_of-self : goal.invariant_of-self
invariant_of-self g c = subst (λ x. KeepsTo c.self.inside.edition x c.self.inside.pending) (sym c.in_err-add_write.ensures.err) c.self.invariant

pub returns-in_err-add_write-clause-err : goal.returns-in_err-add_write-clause-err
returns-in_err-add_write-clause-err g c = on_err _ (unchanged _ _ _ _ c.in_err-add_write.ensures.err ∙ c.self.view_is)

pub invariant_of-self-2 : goal.invariant_of-self-2
invariant_of-self-2 g c =
    declared_keeps _ _ _ _ _ _ c.in_ok-add_write.ensures.ok (subst IsBare (sym c.self.view_is) c.requires)
    (sound_write _ c.args.key c.self.invariant.1 c.has_name.ensures) c.self.invariant

pub returns-clause-ok : goal.returns-clause-ok
returns-clause-ok g c =
    unchanged _ _ _ _ c.in_ok-add_write.ensures.ok ∙ declared _ _ _ _ _ c.self.invariant.0 (subst IsBare (sym c.self.view_is) c.requires)
    ∙ ap (λ (d : Drafted). with_write d c.args.key) c.self.view_is
