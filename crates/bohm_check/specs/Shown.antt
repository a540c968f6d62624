-- How a line is displayed, with carets below it.
use Rattle.std.specs.Prelude.{◌≡◌, ℕ, ◌&&◌, nat_le, List, [], ◌∷◌, ◌++◌, map, replicate, if◌then◌else◌}
use Rattle.bohm_check.specs.declared.shown.Window.{Window}

-- bytes of a line that are shown
abbrev pub most_shown : ℕ
most_shown = 120

-- a byte that can be printed, or a question mark
abbrev pub printable : ℕ → ℕ
printable b = if nat_le 32 b && nat_le b 126 then b else 63

-- a line after four blanks, and below it this many carets from an offset on
abbrev pub marked : List ℕ → ℕ → ℕ → List ℕ
marked line offset carets =
    replicate 4 32 ++ (map printable line ++ 10 ∷ (replicate 4 32 ++ (replicate offset 32 ++ (replicate carets 94 ++ 10 ∷ []))))

-- all of the line is shown
pub record IsWhole (line : List ℕ) (w : Window) : Type 0 where
  pub bytes : w.bytes.now ≡ line
  pub before : w.before ≡ 0
  pub behind : w.behind ≡ 0
