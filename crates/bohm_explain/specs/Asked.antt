-- A request for an explanation, with its ranges and defaults.
use Rattle.std.specs.Prelude.{ℕ, ◌≤◌, Option, None, IfSome}
use Rattle.bohm_settings.specs.Given.{Given, IsBetween}
use Rattle.bohm_settings.specs.Given as settings
use Rattle.bohm_explain.specs.declared.layout.Layout.{Layout}
use Rattle.bohm_types.specs.Limits.{most_txns}

-- keys that are listed
abbrev pub most_listed : ℕ
most_listed = 1000

pub record Asked : Type 0 where
  pub given : Given
  pub top : ℕ
  pub picture : Option ℕ
  pub layout : Layout

-- settings with these numbers, and the other ones by default
abbrev pub numbers : ℕ → ℕ → ℕ → ℕ → Given
numbers cc exec parts batch = record { cc = cc; exec = exec; parts = parts; batch = batch; keep = 0; at = None }

-- each number is in its range
pub record AreInRange (asked : Asked) : Type 0 where
  pub given : settings.AreInRange asked.given
  pub top : asked.top ≤ most_listed
  pub picture : IfSome asked.picture (IsBetween 1 most_txns)
