-- The statements of a procedure's text, by the numbers that replies have.
use Rattle.std.specs.Prelude.{◌≡◌, ℕ, zero, suc, ◌+◌, ◌-◌, nat_le, List, ◌++◌, map, length, Option, Some, None, slice_get, if◌then◌else◌}
use Rattle.bohm_types.specs.Procedure.{Procedure}
use Rattle.bohm_text.specs.Print.{line_text, stmt_words}
use Rattle.bohm_text.specs.ProcedureText.{procedure_lines, value_words}

-- each value's line, which stands for its binding, and then those of the body
abbrev pub statement_lines : Procedure → List (List ℕ)
statement_lines p = map line_text (map value_words p.values ++ map stmt_words p.body)

-- statements are counted from 1
abbrev pub statement_text : Procedure → ℕ → Option (List ℕ)
statement_text p zero = None
statement_text p (suc i) = slice_get (statement_lines p) i

-- the line of the procedure's text with this number, counted from 1
abbrev pub text_line : Procedure → ℕ → Option (List ℕ)
text_line p line = slice_get (map line_text (procedure_lines p)) (line - 1)

-- the values' lines follow the head and the keys'; the reads and the writes come before the body
abbrev pub statement_line : Procedure → ℕ → ℕ
statement_line p number = if nat_le number (length p.values) then length p.keys + number + 1 else length p.keys + number + 3

-- this is the text of the procedure's statement with this number, and the line of the procedure's text where it is
pub record IsStatement (p : Procedure) (number line : ℕ) (text : List ℕ) : Type 0 where
  pub statement : statement_text p number ≡ Some text
  pub numbered : line ≡ statement_line p number
  pub there : text_line p line ≡ Some text
