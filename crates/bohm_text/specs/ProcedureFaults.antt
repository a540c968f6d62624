-- When a procedure's text is refused.
use Rattle.std.specs.Prelude.{◌≡◌, ◌≢◌, ℕ, ◌-◌, ◌<◌, ◌≤◌, List, ◌++◌, map, length, take}
use Rattle.bohm_types.specs.Procedure.{Procedure}
use Rattle.bohm_text.specs.Print.{line_text}
use Rattle.bohm_text.specs.Cut.{whole_lines}
use Rattle.bohm_text.specs.ProcedureText.{IsProcedure, procedure_lines, print_procedure}

-- some procedure's text has these as its first lines
pub record Front (lines : List (List ℕ)) : Type 0 where
  pub procedure : Procedure
  pub sound : IsProcedure procedure
  pub more : List (List ℕ)
  pub begins : map line_text (procedure_lines procedure) ≡ lines ++ more

-- line n exists, and the lines before it begin some procedure's text, but together with line n they don't
pub record IsFirstBadLine (lines : List (List ℕ)) (n : ℕ) : Type 0 where
  pub counted : 0 < n
  pub within : n ≤ length lines
  pub before : Front (take (n - 1) lines)
  pub bad : ¬ Front (take n lines)

-- the complete lines begin some procedure's text, but the text isn't a procedure's
pub record IsShort (text : List ℕ) : Type 0 where
  pub begins : Front (whole_lines text)
  pub none : (p : Procedure) → IsProcedure p → print_procedure p ≢ text
