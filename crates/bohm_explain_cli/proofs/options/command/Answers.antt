use Rattle.std.proofs.Common.{◌∙◌, ap₂}
use Rattle.std.proofs.lemmas.Result.{IfOk-weaker}
use Rattle.clap.specs.Words.{with_rule}
use Rattle.bohm_explain_cli.proofs.options.command.Goals as goal

pub returns : goal.returns
returns c =
    let with_cc = c.in_ok-arg.ensures.shape c.number.ensures.local ∙ ap₂ with_rule c.in_ok-command_with_file.ensures c.number.ensures.rule in
    let with_exec = c.in_ok-arg-2.ensures.shape c.number-2.ensures.local ∙ ap₂ with_rule with_cc c.number-2.ensures.rule in
    let with_parts = c.in_ok-arg-3.ensures.shape c.number-3.ensures.local ∙ ap₂ with_rule with_exec c.number-3.ensures.rule in
    let with_batch = c.in_ok-arg-4.ensures.shape c.number-4.ensures.local ∙ ap₂ with_rule with_parts c.number-4.ensures.rule in
    let with_top = c.in_ok-arg-5.ensures.shape c.number-5.ensures.local ∙ ap₂ with_rule with_batch c.number-5.ensures.rule in
    let with_svg = c.in_ok-arg-6.ensures.shape c.number-6.ensures.local ∙ ap₂ with_rule with_top c.number-6.ensures.rule in
    let with_summary = c.in_ok-arg-7.ensures.shape c.flag.ensures.local ∙ ap₂ with_rule with_svg c.flag.ensures.rule in
    let with_json = c.in_ok-arg-8.ensures.shape c.flag-2.ensures.local ∙ ap₂ with_rule with_summary c.flag-2.ensures.rule in
    IfOk-weaker c.arg-9.result _ _ (λ r h. h.shape c.flag-3.ensures.local ∙ ap₂ with_rule with_json c.flag-3.ensures.rule) c.arg-9.ensures
