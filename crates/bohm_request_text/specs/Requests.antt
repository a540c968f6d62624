-- Where requests begin and end.
use Rattle.std.specs.Prelude.{ℕ, Bool, true, false, not, ◌||◌, List, [], ◌∷◌, codes, if◌then◌else◌}
use Rattle.std.specs.Str.{bytes_eq}
use Rattle.bohm_text.specs.Cut.{split, whole_lines}
use Rattle.bohm_entries.specs.Batches.{leads, onto_entry}

-- a definition or a transaction begins
abbrev pub begins_lines : List ℕ → Bool
begins_lines line = leads (codes "define") (split 32 line) || leads (codes "txn") (split 32 line)

-- whether a request goes on behind a line, before which it began or not
abbrev pub goes_on : Bool → List ℕ → Bool
goes_on true line = not (bytes_eq line (codes "end"))
goes_on false line = begins_lines line

-- the requests of these lines; the first line goes on with one or begins one, and what is behind the last end is no request
abbrev pub requests_in : Bool → List (List ℕ) → List (List (List ℕ))
requests_in is_open [] = []
requests_in is_open (line ∷ lines) =
    if goes_on is_open line then onto_entry line (requests_in true lines) else (line ∷ []) ∷ requests_in false lines

-- the requests of a text
abbrev pub requests_of : List ℕ → List (List (List ℕ))
requests_of text = requests_in false (whole_lines text)
