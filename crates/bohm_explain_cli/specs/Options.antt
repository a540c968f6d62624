-- The program's options, as clap represents them, and the request that they make.
use Rattle.std.specs.Prelude.{List, codes, fold, [], ◌∷◌, unwrap_or}
use Rattle.clap.specs.Words.{App, Row, with_rule}
use Rattle.bohm_command.specs.Options.{flag_in, flag_rule, number_in, number_rule, with_file}
use Rattle.bohm_settings.specs.Given.{defaults}
use Rattle.bohm_settings.specs.declared.settings.TheConstants.{MOST_WORKERS, MOST_PARTS, LARGEST_BATCH}
use Rattle.bohm_explain.specs.Asked.{Asked, numbers}
use Rattle.bohm_explain.specs.declared.request.TheConstants.{LISTED, MOST_LISTED, LAST_PART}

-- the command
abbrev pub explain : App
explain =
    fold with_rule (with_file (codes "bohm-explain")) (number_rule (codes "cc") 1 MOST_WORKERS
    ∷ number_rule (codes "exec") 1 MOST_WORKERS
    ∷ number_rule (codes "parts") 1 MOST_PARTS
    ∷ number_rule (codes "batch") 1 LARGEST_BATCH
    ∷ number_rule (codes "top") 0 MOST_LISTED
    ∷ number_rule (codes "svg") 1 LAST_PART
    ∷ flag_rule (codes "summary")
    ∷ flag_rule (codes "json")
    ∷ flag_rule (codes "replies")
    ∷ [])

-- each option's number, or its default, and whether each flag is given
abbrev pub asked_in : List Row → Asked
asked_in rows = record {
  given = numbers (unwrap_or (number_in rows (codes "cc")) defaults.cc) (unwrap_or (number_in rows (codes "exec")) defaults.exec)
      (unwrap_or (number_in rows (codes "parts")) defaults.parts) (unwrap_or (number_in rows (codes "batch")) defaults.batch);
  top = unwrap_or (number_in rows (codes "top")) LISTED;
  picture = number_in rows (codes "svg");
  layout = record { summary = flag_in rows (codes "summary"); json = flag_in rows (codes "json") };
}
