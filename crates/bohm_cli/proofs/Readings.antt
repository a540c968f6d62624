-- The settings that are made of the parsed numbers are those that the arguments give.
use Rattle.std.proofs.Common.{◌≡◌, ◌∙◌, ap, List, Option, Some, None, codes}
use Rattle.std.specs.Option.{SomeIff}
use Rattle.clap.specs.Words.{Row, Text}
use Rattle.bohm_settings.specs.Given.{AreInRange, Given, defaults}
use Rattle.bohm_settings.specs.declared.settings.TheConstants.{MOST_WORKERS, MOST_PARTS, LARGEST_BATCH, MOST_KEPT}
use Rattle.bohm_command.specs.Taken.{rows_in}
use Rattle.bohm_command.proofs.ForCallers.{IsNumber, IsNumberOr}
use Rattle.bohm_cli.specs.Options.{bohm, given_in}
use Rattle.bohm_cli.specs.Taken.{settings_in}

-- the settings of the parsed numbers
pub settings_read : (rows : List Row) (given : Given) → IsNumberOr defaults.cc rows (codes "cc") 1 MOST_WORKERS given.cc
    → IsNumberOr defaults.exec rows (codes "exec") 1 MOST_WORKERS given.exec
    → IsNumberOr defaults.parts rows (codes "parts") 1 MOST_PARTS given.parts → IsNumberOr defaults.batch rows (codes "batch") 1 LARGEST_BATCH given.batch
    → IsNumberOr defaults.keep rows (codes "keep") 0 MOST_KEPT given.keep → IsNumber rows (codes "at") 0 4294967295 given.at
    → (result : Option Given) → SomeIff result (AreInRange given) given → result ≡ Some (given_in rows)
settings_read rows given cc exec parts batch keep at result = go result
  where
    in_range : AreInRange given
    in_range = record { cc = cc.1; exec = exec.1; parts = parts.1; batch = batch.1; keep = keep.1.1 }

    same : given ≡ given_in rows
    same = λ i. record { cc = cc.0 i; exec = exec.0 i; parts = parts.0 i; batch = batch.0 i; keep = keep.0 i; at = at.0 i }

    go : (o : Option Given) → SomeIff o (AreInRange given) given → o ≡ Some (given_in rows)
    go None none = absurd (none in_range)
    go (Some settings) is = ap Some (is.1 ∙ same)

-- the settings by clap's rows are those by the arguments
pub same_settings : (rows : List Row) (arguments : List Text) → rows ≡ rows_in bohm arguments → given_in rows ≡ settings_in arguments
unfolding settings_in
same_settings rows arguments same = ap given_in same
