-- What a desk stores.
use Rattle.std.specs.Prelude.{List, ℕ, [], ◌∷◌}

-- the batches of a commit: none where nothing is stored
abbrev pub batches_of : List ℕ → List (List ℕ)
batches_of [] = []
batches_of (b ∷ bs) = (b ∷ bs) ∷ []
