-- Numbered names.
use Rattle.std.specs.Prelude.{ℕ, ◌≤◌, ◌^◌, List, [], ◌∷◌, ◌++◌, length, if◌then◌else◌}
use Rattle.std.specs.List.{list_any, IsDistinct}
use Rattle.std.specs.Str.{bytes_eq}

-- the names with one more, unless it is among them
abbrev pub with_name : List (List ℕ) → List ℕ → List (List ℕ)
with_name names k = if list_any (bytes_eq k) names then names else names ++ k ∷ []

-- few enough for 32-bit numbers, and distinct
pub record IsInterned (names : List (List ℕ)) : Type 0 where
  pub few : length names ≤ 2 ^ 32
  -- names are distinct
  pub apart : IsDistinct bytes_eq names
