-- What the parsed options ask for.
use Rattle.std.proofs.Common.{◌≡◌, ◌∙◌, List, ap, codes}
use Rattle.clap.specs.Words.{Row, Text}
use Rattle.bohm_command.specs.Options.{flag_in}
use Rattle.bohm_command.specs.Taken.{rows_in}
use Rattle.bohm_tidy_cli.specs.Options.{asked_in, tidy, wishes_in}
use Rattle.bohm_tidy_cli.specs.declared.arguments.Wishes.{Wishes}

pub wished : (rows : List Row) (arguments : List Text) (wishes : Wishes) → rows ≡ rows_in tidy arguments → wishes.check ≡ flag_in rows (codes "check")
    → wishes.keep_comments ≡ flag_in rows (codes "keep-comments") → wishes ≡ wishes_in arguments
unfolding wishes_in
wished rows arguments wishes same check keep =
    let asked : wishes ≡ asked_in rows = λ i. record { check = check i; keep_comments = keep i } in
    asked ∙ ap asked_in same
