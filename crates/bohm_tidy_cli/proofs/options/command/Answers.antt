use Rattle.std.proofs.Common.{◌∙◌, ap₂}
use Rattle.std.proofs.lemmas.Result.{IfOk-weaker}
use Rattle.clap.specs.Words.{with_rule}
use Rattle.bohm_tidy_cli.proofs.options.command.Goals as goal

pub returns : goal.returns
returns c =
    let with_check = c.in_ok-arg.ensures.shape c.flag.ensures.local ∙ ap₂ with_rule c.in_ok-command_with_file.ensures c.flag.ensures.rule in
    IfOk-weaker c.arg-2.result _ _ (λ r h. h.shape c.flag-2.ensures.local ∙ ap₂ with_rule with_check c.flag-2.ensures.rule) c.arg-2.ensures
