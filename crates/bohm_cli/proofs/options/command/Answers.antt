use Rattle.std.proofs.Common.{◌≡◌, ◌∙◌, ap₂, codes}
use Rattle.std.proofs.lemmas.Result.{IfOk-weaker}
use Rattle.clap.specs.Words.{app_of, new_app, with_rule}
use Rattle.bohm_cli.proofs.options.command.Goals as goal

pub returns : goal.returns
returns c =
    let named : app_of c.after_help.result ≡ new_app (codes "bohm") = rw (c.after_help.ensures, c.about.ensures) c.new.ensures.app in
    let with_cc = c.in_ok-arg.ensures.shape c.number.ensures.local ∙ ap₂ with_rule named c.number.ensures.rule in
    let with_exec = c.in_ok-arg-2.ensures.shape c.number-2.ensures.local ∙ ap₂ with_rule with_cc c.number-2.ensures.rule in
    let with_parts = c.in_ok-arg-3.ensures.shape c.number-3.ensures.local ∙ ap₂ with_rule with_exec c.number-3.ensures.rule in
    let with_batch = c.in_ok-arg-4.ensures.shape c.number-4.ensures.local ∙ ap₂ with_rule with_parts c.number-4.ensures.rule in
    let with_keep = c.in_ok-arg-5.ensures.shape c.number-5.ensures.local ∙ ap₂ with_rule with_batch c.number-5.ensures.rule in
    IfOk-weaker c.arg-6.result _ _ (λ r h. h.shape c.number-6.ensures.local ∙ ap₂ with_rule with_keep c.number-6.ensures.rule) c.arg-6.ensures
