-- The settings that the arguments after the program's name give.
use Rattle.std.specs.Prelude.{List}
use Rattle.clap.specs.Words.{Text}
use Rattle.bohm_settings.specs.Given.{Given}
use Rattle.bohm_command.specs.Taken.{rows_in}
use Rattle.bohm_cli.specs.Options.{bohm, given_in}

-- the settings that clap parses from the arguments
unfoldable pub settings_in : List Text → Given
settings_in arguments = given_in (rows_in bohm arguments)
