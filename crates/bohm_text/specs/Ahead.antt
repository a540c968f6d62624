-- Which word comes first, if other words follow it.
use Rattle.std.specs.Prelude.{ℕ, List, [], ◌∷◌, Bool, false}
use Rattle.std.specs.Str.{bytes_eq}
use Rattle.bohm_text.specs.Print.{Words}

-- whether this word comes first, and another one follows it
abbrev pub is_ahead : List ℕ → Words → Bool
is_ahead word [] = false
is_ahead word (first ∷ []) = false
is_ahead word (first ∷ next ∷ words) = bytes_eq first word
