use Rattle.std.proofs.Common.{◌≡◌, ◌∙◌, ap, ap₂, true}
use Rattle.std.proofs.lemmas.Result.{IfOk-weaker}
use Rattle.clap.specs.Simple.{on_top}
use Rattle.clap.specs.Words.{App, app_of, new_app, with_rule}
use Rattle.bohm_command.proofs.with_file.command_with_file.Goals as goal

-- the command with a version
abbrev versioned : App → App
versioned = on_top (λ s. record s { has_version = true })

pub returns : goal.returns
returns c =
    let named : app_of c.version.result ≡ versioned (new_app c.args.program.name.now) =
    rw (c.version.ensures, c.after_help.ensures, c.about.ensures) (ap versioned c.new.ensures.app) in
    IfOk-weaker c.arg.result _ _ (λ r h. h.shape c.file.ensures.local ∙ ap₂ with_rule named c.file.ensures.rule) c.arg.ensures
