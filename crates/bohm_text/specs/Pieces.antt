-- One or more lines that are read at once.
use Rattle.std.specs.Prelude.{◌≡◌, ℕ, ◌<◌, List, ◌++◌, length, Some}
use Rattle.bohm_text.specs.Cut.{whole_lines}
use Rattle.bohm_text.specs.Print.{text_of}
use Rattle.bohm_text.specs.Step.{Progress, steps}

-- the text begins with this many lines, which lead from the progress before them to that after them
pub record PieceRead (text rest : List ℕ) (count : ℕ) (before now : Progress) : Type 0 where
  pub piece : List (List ℕ)
  pub counted : length piece ≡ count
  pub some : 0 < count
  pub lines : whole_lines text ≡ piece ++ whole_lines rest
  pub bytes : text ≡ text_of piece ++ rest
  pub read : steps before piece ≡ Some now
