use Rattle.std.proofs.Common.{sym, ◌∙◌}
use Rattle.std.proofs.lemmas.Bool.{false≢true}
use Rattle.std.proofs.lemmas.Result.{IfOk-weaker}
use Rattle.bohm_tidy_cli.proofs.tidying.tidied.Goals as goal

pub returns-then-branch-clause-ok : goal.returns-then-branch-clause-ok
returns-then-branch-clause-ok c =
    let is = sym c.in_ok-is_loose_procedure.ensures ∙ c.if-branch.true in
    IfOk-weaker c.tidy_procedure.result _ _ (λ exact h. record { log = λ no. absurd (false≢true (sym no ∙ is)); procedure = λ yes. h })
    c.tidy_procedure.ensures

pub returns-else-branch-clause-ok : goal.returns-else-branch-clause-ok
returns-else-branch-clause-ok c =
    let is = sym c.in_ok-is_loose_procedure.ensures ∙ c.if-branch.false in
    IfOk-weaker c.tidy.result _ _ (λ exact h. record { log = λ no. h; procedure = λ yes. absurd (false≢true (sym is ∙ yes)) }) c.tidy.ensures.ok
