-- What a commit takes of the requests.
use Rattle.std.specs.Prelude.{◌≡◌, ℕ, Bool, true, false, List, [], ◌∷◌, ◌++◌, if◌then◌else◌}
use Rattle.bohm_requests.specs.declared.turn.Turn.{Turn}
use Rattle.bohm_requests.specs.declared.turn.Turn.TheVariants.{Stored}

-- the request is an entry of the commit
abbrev pub is_stored : Turn → Bool
is_stored (Stored id) = true
is_stored _ = false

-- what a request with this turn adds to the commit's text: itself, if it is an entry of it
abbrev pub added_by : Turn → List ℕ → List ℕ
added_by t request = if is_stored t then request else []

-- one request more has its turn, and the commit's text what it adds
abbrev pub IsTaken : List ℕ → List Turn → List ℕ → List Turn → List ℕ → Type 0
IsTaken request turns batch new_turns new_batch =
    (t : Turn) × (new_turns ≡ turns ++ t ∷ []) × (new_batch ≡ batch ++ added_by t request)

-- these requests, of which each ends where the next one begins, have these turns; the text is that of those among them that are stored
abbrev pub AreTaken : List (List ℕ) → List Turn → List ℕ → Type 0
AreTaken [] [] batch = batch ≡ []
AreTaken [] (t ∷ ts) batch = ⊥
AreTaken (r ∷ rs) [] batch = ⊥
AreTaken (r ∷ rs) (t ∷ ts) batch = (rest : List ℕ) × (batch ≡ added_by t r ++ rest) × AreTaken rs ts rest

-- the texts of requests, one behind the other
abbrev pub joined : List (List ℕ) → List ℕ
joined [] = []
joined (r ∷ rs) = r ++ joined rs

-- the first requests of a text have these turns, and the stored ones among them this text; what is left of the text follows them
abbrev pub TakesFrom : List ℕ → List ℕ → List Turn → List ℕ → Type 0
TakesFrom text left turns batch = (requests : List (List ℕ)) × (text ≡ joined requests ++ left) × AreTaken requests turns batch
