-- How clap parses the arguments after a program's name.
use Rattle.std.specs.Prelude.{◌≡◌, true, List, ◌∷◌}
use Rattle.clap.specs.Words.{App, Kinds, Row, Text, takes, fault_of, matches_of}

-- clap's rule for simple commands accepts the arguments
unfoldable pub AreTaken : App → List Text → Type 0
AreTaken app arguments = takes app (app.top.name ∷ arguments) ≡ true

-- the kinds of fault that clap finds in the arguments: none if it accepts them
unfoldable pub faults_in : App → List Text → Kinds
faults_in app arguments = fault_of app (app.top.name ∷ arguments)

-- what clap parses from the arguments, option by option
unfoldable pub rows_in : App → List Text → List Row
rows_in app arguments = matches_of app (app.top.name ∷ arguments)
