use Rattle.std.proofs.Common.{[], ◌∷◌, ◌++◌, ap, ◌∙◌}
use Rattle.bohm_log.specs.Parts.{names_at}
use Rattle.bohm_log.proofs.ForCallers.{same_names, on_err}
use Rattle.bohm_c.proofs.Numbered.{pushed_named, pushed_names}
use Rattle.bohm_c.proofs.key_names.KeyNames.push.Goals as goal

pub invariant_of-self-2 : goal.invariant_of-self-2
invariant_of-self-2 c =
    pushed_named _ _ _ c.number_of.ensures.grows c.self.invariant _ _ c.in_ok-push.ensures.items c.in_ok-number.ensures.named

pub returns-in_err-number-clause-err : goal.returns-in_err-number-clause-err
returns-in_err-number-clause-err c =
    on_err c.from_residual.result (same_names _ _ _ c.number_of.ensures.grows c.self.invariant ∙ c.self.view_is)

pub returns-clause-ok : goal.returns-clause-ok
returns-clause-ok c =
    pushed_names _ _ _ c.number_of.ensures.grows c.self.invariant _ _ _ c.in_ok-push.ensures.items c.in_ok-number.ensures.key
    ∙ ap (λ names. names ++ c.args.key.now ∷ []) c.self.view_is

pub returns-in_err-push-clause-err : goal.returns-in_err-push-clause-err
returns-in_err-push-clause-err c =
    on_err c.from_residual-in_err-push.result (ap (names_at _) c.in_err-push.ensures.items
    ∙ same_names _ _ _ c.number_of.ensures.grows c.self.invariant ∙ c.self.view_is)
