-- Lines that are read one after another, each by a step from the state before it.
use Rattle.std.specs.Prelude.{◌≡◌, ◌≢◌, ℕ, ◌-◌, ◌<◌, ◌≤◌, List, [], ◌∷◌, take, length, Option, Some, None, IsSome}
use Rattle.bohm_text.specs.Print.{text_of}
use Rattle.bohm_text.specs.Cut.{whole_lines}
use Rattle.bohm_text.specs.Reading.{◌>>=◌}

-- the effect of lines, from a state: that of each line, one after another
abbrev pub after_lines : {S : Type 0} → (S → List ℕ → Option S) → S → List (List ℕ) → Option S
after_lines step state [] = Some state
after_lines step state (line ∷ lines) = step state line >>= λ next. after_lines step next lines

-- line n is the first line at which the lines are refused
pub record IsFirstRefused {S : Type 0} (step : S → List ℕ → Option S) (start : S) (lines : List (List ℕ)) (n : ℕ) : Type 0 where
  pub counted : 0 < n
  pub within : n ≤ length lines
  pub before : IsSome (after_lines step start (take (n - 1) lines))
  pub at : after_lines step start (take n lines) ≡ None

-- the complete lines are read, but the text isn't that of a whole value
pub record IsLeftOpen {S X : Type 0} (step : S → List ℕ → Option S) (start : S) (whole : X → S) (text : List ℕ) : Type 0 where
  pub state : S
  pub read : after_lines step start (whole_lines text) ≡ Some state
  pub unfinished : (x : X) → state ≡ whole x → text_of (whole_lines text) ≢ text
