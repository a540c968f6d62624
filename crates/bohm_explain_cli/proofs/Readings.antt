-- The numbers that are read from the arguments, and the request that they make.
use Rattle.std.proofs.Common.{◌≡◌, ◌∙◌, ap, arith, ℕ, Bool, List, Option, Some, None, codes}
use Rattle.std.specs.Prelude.{if◌then◌else◌}
use Rattle.std.specs.Option.{SomeIff}
use Rattle.clap.specs.Words.{Row, Text}
use Rattle.bohm_settings.specs.Given.{defaults}
use Rattle.bohm_settings.specs.declared.settings.TheConstants.{MOST_WORKERS, MOST_PARTS, LARGEST_BATCH}
use Rattle.bohm_explain.specs.Asked.{AreInRange, Asked, numbers}
use Rattle.bohm_explain.specs.declared.layout.Layout.{Layout}
use Rattle.bohm_explain.specs.declared.request.TheConstants.{LISTED, MOST_LISTED, LAST_PART}
use Rattle.bohm_command.specs.Options.{flag_in}
use Rattle.bohm_command.specs.Taken.{rows_in}
use Rattle.bohm_command.proofs.ForCallers.{IsNumber, IsNumberOr}
use Rattle.bohm_explain_cli.specs.Options.{explain, asked_in}
use Rattle.bohm_explain_cli.specs.Taken.{wish_in, wish_of}
use Rattle.bohm_explain_cli.specs.declared.arguments.Wish.{Wish}
use Rattle.bohm_explain_cli.specs.declared.arguments.Wish.TheVariants.{Figures, Aborts}

-- the request with these numbers
abbrev asked_of : ℕ → ℕ → ℕ → ℕ → ℕ → Option ℕ → Layout → Asked
asked_of cc exec parts batch top picture layout = record { given = numbers cc exec parts batch; top = top; picture = picture; layout = layout }

-- numbers read from the options are in range, and make the request of these options
pub request_read : (rows : List Row) (cc exec parts batch top : ℕ) (picture : Option ℕ) (layout : Layout)
    → IsNumberOr defaults.cc rows (codes "cc") 1 MOST_WORKERS cc → IsNumberOr defaults.exec rows (codes "exec") 1 MOST_WORKERS exec
    → IsNumberOr defaults.parts rows (codes "parts") 1 MOST_PARTS parts → IsNumberOr defaults.batch rows (codes "batch") 1 LARGEST_BATCH batch
    → IsNumberOr LISTED rows (codes "top") 0 MOST_LISTED top → IsNumber rows (codes "svg") 1 LAST_PART picture
    → layout ≡ record { summary = flag_in rows (codes "summary"); json = flag_in rows (codes "json") }
    → (result : Option Asked)
    → SomeIff result (AreInRange (asked_of cc exec parts batch top picture layout)) (asked_of cc exec parts batch top picture layout)
    → result ≡ Some (asked_in rows)
request_read rows cc exec parts batch top picture layout is_cc is_exec is_parts is_batch is_top is_picture is_layout result = go result
  where
    in_range : AreInRange (asked_of cc exec parts batch top picture layout)
    in_range = record {
      given = record { cc = is_cc.1; exec = is_exec.1; parts = is_parts.1; batch = is_batch.1; keep = omega arith };
      top = is_top.1.1;
      picture = is_picture.1;
    }

    same : asked_of cc exec parts batch top picture layout ≡ asked_in rows
    same = λ i. asked_of (is_cc.0 i) (is_exec.0 i) (is_parts.0 i) (is_batch.0 i) (is_top.0 i) (is_picture.0 i) (is_layout i)

    go : (o : Option Asked) → SomeIff o (AreInRange (asked_of cc exec parts batch top picture layout)) (asked_of cc exec parts batch top picture layout)
        → o ≡ Some (asked_in rows)
    go None none = absurd (none in_range)
    go (Some request) is = ap Some (is.1 ∙ same)

-- the options that clap parsed make the arguments' wish
pub wish_read : (rows : List Row) (arguments : List Text) (flag : Bool) (asked : Asked) (wish : Wish) → rows ≡ rows_in explain arguments
    → flag ≡ flag_in rows (codes "replies") → asked ≡ asked_in rows → wish ≡ (if flag then Aborts else Figures asked) → wish ≡ wish_in arguments
unfolding wish_in
wish_read rows arguments flag asked wish same given is made =
    made ∙ (λ i. if given i then Aborts else Figures (is i)) ∙ ap wish_of same
