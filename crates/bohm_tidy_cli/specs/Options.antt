-- The program's options, as clap represents them, and what they ask for.
use Rattle.std.specs.Prelude.{List, codes}
use Rattle.clap.specs.Words.{App, Row, Text, with_rule}
use Rattle.bohm_command.specs.Options.{flag_in, flag_rule, with_file}
use Rattle.bohm_command.specs.Taken.{rows_in}
use Rattle.bohm_tidy_cli.specs.declared.arguments.Wishes.{Wishes}

-- the command
abbrev pub tidy : App
tidy = with_rule (with_rule (with_file (codes "bohm-tidy")) (flag_rule (codes "check"))) (flag_rule (codes "keep-comments"))

-- whether each flag is given
abbrev pub asked_in : List Row → Wishes
asked_in rows = record { check = flag_in rows (codes "check"); keep_comments = flag_in rows (codes "keep-comments") }

-- what the arguments that clap parses ask for
unfoldable pub wishes_in : List Text → Wishes
wishes_in arguments = asked_in (rows_in tidy arguments)
