-- The first line of an entry.
use Rattle.std.specs.Prelude.{◌≡◌, ℕ, Bool, true, false, ◌==◌, List, [], ◌∷◌, Option, Some, None, codes, ⊤}
use Rattle.bohm_entries.specs.Ids.{is_id}
use Rattle.bohm_entries.specs.declared.first_line.Kind.{Kind}
use Rattle.bohm_entries.specs.declared.first_line.Kind.TheVariants.{Define, Call, Transaction}

abbrev pub word_of : Kind → List ℕ
word_of Define = codes "define"
word_of Call = codes "call"
word_of Transaction = codes "txn"

-- the words of the line: the kind, `#` and the id if there is one, and the rest
abbrev pub line_words : Kind → Option (List ℕ) → List (List ℕ) → List (List ℕ)
line_words kind None rest = word_of kind ∷ rest
line_words kind (Some id) rest = word_of kind ∷ (35 ∷ id) ∷ rest

abbrev pub has_mark : List ℕ → Bool
has_mark [] = false
has_mark (b ∷ bs) = b == 35

-- where no id is given, the next word doesn't look like one
abbrev pub IsRest : Option (List ℕ) → List (List ℕ) → Type 0
IsRest None [] = ⊤
IsRest None (word ∷ words) = has_mark word ≡ false
IsRest (Some id) words = is_id id ≡ true
