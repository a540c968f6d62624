-- When a text is refused.
use Rattle.std.specs.Prelude.{◌≢◌, ℕ, ◌-◌, ◌<◌, ◌≤◌, List, length, take}
use Rattle.bohm_types.specs.Document.{Document}
use Rattle.bohm_types.specs.Sound.{IsDocument}
use Rattle.bohm_text.specs.Print.{print_doc}
use Rattle.bohm_text.specs.Cut.{whole_lines}
use Rattle.bohm_text.specs.Front.{Front}

-- line n exists, and the lines before it begin some document's text, but together with line n they don't
pub record IsFirstBadLine (lines : List (List ℕ)) (n : ℕ) : Type 0 where
  pub counted : 0 < n
  pub within : n ≤ length lines
  pub before : Front (take (n - 1) lines)
  pub bad : ¬ Front (take n lines)

-- the complete lines begin some document's text, but the text isn't a document's
pub record IsShort (text : List ℕ) : Type 0 where
  pub begins : Front (whole_lines text)
  pub none : (d : Document) → IsDocument d → print_doc d ≢ text
