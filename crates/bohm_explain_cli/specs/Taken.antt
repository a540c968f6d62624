-- What the arguments after the program's name ask for.
use Rattle.std.specs.Prelude.{List, codes, if◌then◌else◌}
use Rattle.clap.specs.Words.{Row, Text}
use Rattle.bohm_command.specs.Options.{flag_in}
use Rattle.bohm_command.specs.Taken.{rows_in}
use Rattle.bohm_explain_cli.specs.Options.{explain, asked_in}
use Rattle.bohm_explain_cli.specs.declared.arguments.Wish.{Wish}
use Rattle.bohm_explain_cli.specs.declared.arguments.Wish.TheVariants.{Figures, Aborts}

-- the aborts if that flag is given, else the answer to the request
abbrev pub wish_of : List Row → Wish
wish_of rows = if flag_in rows (codes "replies") then Aborts else Figures (asked_in rows)

-- what the arguments that clap parses ask for
unfoldable pub wish_in : List Text → Wish
wish_in arguments = wish_of (rows_in explain arguments)
