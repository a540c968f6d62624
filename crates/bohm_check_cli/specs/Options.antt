-- The program's arguments, as clap represents them.
use Rattle.std.specs.Prelude.{codes}
use Rattle.clap.specs.Words.{App}
use Rattle.bohm_command.specs.Options.{with_file}

-- the command
abbrev pub check : App
check = with_file (codes "bohm-check")
