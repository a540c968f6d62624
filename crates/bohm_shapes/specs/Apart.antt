-- Lists in which nothing occurs twice.
use Rattle.std.specs.Prelude.{ℕ, List, [], ◌∷◌, Bool, true, not, ◌&&◌, ◌==◌}
use Rattle.std.specs.List.{list_any}
use Rattle.bohm_types.specs.Keys.{is_among}

-- no name occurs twice
abbrev pub all_apart : List (List ℕ) → Bool
all_apart [] = true
all_apart (x ∷ xs) = not (is_among xs x) && all_apart xs

-- no number occurs twice
abbrev pub apart_numbers : List ℕ → Bool
apart_numbers [] = true
apart_numbers (n ∷ ns) = not (list_any (λ m. m == n) ns) && apart_numbers ns
