-- The program's options, as clap represents them, and the settings that they give.
use Rattle.std.specs.Prelude.{List, [], ◌∷◌, codes, unwrap_or}
use Rattle.clap.specs.Simple.{new_shape}
use Rattle.clap.specs.Words.{App, Row}
use Rattle.bohm_command.specs.Options.{number_in, number_rule}
use Rattle.bohm_settings.specs.Given.{Given, defaults}
use Rattle.bohm_settings.specs.declared.settings.TheConstants.{MOST_WORKERS, MOST_PARTS, LARGEST_BATCH, MOST_KEPT}
use Rattle.bohm_types.specs.Limits.{last_timestamp}

-- the command
abbrev pub bohm : App
bohm = record {
  top = record (new_shape (codes "bohm")) {
    rules =
        number_rule (codes "cc") 1 MOST_WORKERS
        ∷ number_rule (codes "exec") 1 MOST_WORKERS
        ∷ number_rule (codes "parts") 1 MOST_PARTS
        ∷ number_rule (codes "batch") 1 LARGEST_BATCH
        ∷ number_rule (codes "keep") 0 MOST_KEPT
        ∷ number_rule (codes "at") 0 last_timestamp
        ∷ [];
  };
  subs = [];
}

-- each option's number, or its default
abbrev pub given_in : List Row → Given
given_in rows = record {
  cc = unwrap_or (number_in rows (codes "cc")) defaults.cc;
  exec = unwrap_or (number_in rows (codes "exec")) defaults.exec;
  parts = unwrap_or (number_in rows (codes "parts")) defaults.parts;
  batch = unwrap_or (number_in rows (codes "batch")) defaults.batch;
  keep = unwrap_or (number_in rows (codes "keep")) defaults.keep;
  at = number_in rows (codes "at");
}
