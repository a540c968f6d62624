use Rattle.std.proofs.Common.{◌≡◌, ◌∙◌, ap₂, codes}
use Rattle.std.proofs.lemmas.Result.{IfOk-weaker}
use Rattle.clap.specs.Words.{app_of, new_app, with_rule}
use Rattle.bohm_ledger_cli.proofs.options.command.Goals as goal

pub returns : goal.returns
returns c =
    let named : app_of c.after_help.result ≡ new_app (codes "bohm-ledger") = rw (c.after_help.ensures, c.about.ensures) c.new.ensures.app in
    let with_edition = c.in_ok-arg.ensures.shape c.number.ensures.local ∙ ap₂ with_rule named c.number.ensures.rule in
    let with_batch = c.in_ok-arg-2.ensures.shape c.number-2.ensures.local ∙ ap₂ with_rule with_edition c.number-2.ensures.rule in
    let with_wait = c.in_ok-arg-3.ensures.shape c.number-3.ensures.local ∙ ap₂ with_rule with_batch c.number-3.ensures.rule in
    let with_log = c.in_ok-arg-4.ensures.shape c.flag.ensures.local ∙ ap₂ with_rule with_wait c.flag.ensures.rule in
    let with_first = c.in_ok-arg-5.ensures.shape c.word.ensures.local ∙ ap₂ with_rule with_log c.word.ensures.rule in
    let with_second = c.in_ok-arg-6.ensures.shape c.word-2.ensures.local ∙ ap₂ with_rule with_first c.word-2.ensures.rule in
    IfOk-weaker c.arg-7.result _ _ (λ r h. h.shape c.word-3.ensures.local ∙ ap₂ with_rule with_second c.word-3.ensures.rule) c.arg-7.ensures
