-- The lines that answer requests.
use Rattle.std.specs.Prelude.{◌≡◌, ◌⊎◌, ℕ, ◌+◌, ◌-◌, List, [], ◌∷◌, ◌++◌, Some, codes, option_map, slice_get, nat_lt, ◌/◌, ◌%◌, if◌then◌else◌}
use Rattle.std.specs.Fmt.{decimal}
use Rattle.bohm_types.specs.declared.cell.Cell.{Cell}
use Rattle.bohm_types.specs.declared.cell.Cell.TheVariants as cells
use Rattle.bohm_text.specs.Print.{lines_text, store_words}
use Rattle.bohm_store.specs.Versions.{Timeline}
use Rattle.bohm_machine.specs.Machines.{past_of, top_of}
use Rattle.bohm_machine.specs.Digests.{IsDigest}
use Rattle.bohm_request_text.specs.Lines.{answer_line, refusal_words}
use Rattle.bohm_requests.specs.declared.turn.Turn.{Turn}
use Rattle.bohm_requests.specs.declared.turn.Turn.TheVariants.{Stored, Again, Known, Refused, Top, Future, Trimmed}
use Rattle.bohm_requests.specs.declared.turn.Turn.TheVariants as turns

-- a word and a number
abbrev pub numbered_words : List ℕ → ℕ → List ℕ
numbered_words word number = word ++ 32 ∷ decimal number

-- what a key holds
abbrev pub cell_line : List ℕ → Cell → List ℕ
cell_line key (cells.Present v) = lines_text (store_words (key, v) ∷ [])
cell_line key cells.Absent = key ++ 10 ∷ []

abbrev pub trimmed_line : List ℕ
trimmed_line = codes "refused: trimmed" ++ 10 ∷ []

-- the line says what a key held before the last so many transactions, or that this isn't known any more
abbrev pub IsCellLine : Timeline → ℕ → List ℕ → List ℕ → Type 0
IsCellLine m back key line = (line ≡ trimmed_line)
    ⊎ ((cell : Cell) × ((ts : ℕ) → ts + back ≡ top_of m → cell ≡ past_of m ts key) × (line ≡ cell_line key cell))

abbrev pub hex_digit : ℕ → ℕ
hex_digit n = if nat_lt n 10 then 48 + n else 87 + n

-- bytes in hexadecimal
abbrev pub hex_of : List ℕ → List ℕ
hex_of [] = []
hex_of (b ∷ bs) = hex_digit (b / 16) ∷ hex_digit (b % 16) ∷ hex_of bs

-- the line says the digest of the store before the last so many transactions, the first of which follows the one with this number
abbrev pub IsDigestLine : Timeline → ℕ → ℕ → List ℕ → Type 0
IsDigestLine m number back line = (line ≡ trimmed_line)
    ⊎ ((digest : List ℕ) × ((ts : ℕ) → ts + back ≡ top_of m → IsDigest (past_of m ts) digest)
    × (line ≡ numbered_words (codes "digest") number ++ 32 ∷ hex_of digest ++ 10 ∷ []))

-- the line answers a request that has this turn. The entries of the commit were answered so; the answers to those from this request on
-- are left; the last transaction has the number `last`
abbrev pub IsLine : Timeline → ℕ → List (List ℕ) → List (List ℕ) → Turn → List ℕ → Type 0
IsLine m last all left (Stored id) line =
    (answer : List ℕ) × (more : List (List ℕ)) × (left ≡ answer ∷ more) × (line ≡ answer_line (option_map (λ i. i.items) id) answer)
IsLine m last all left (Again id index) line =
    (answer : List ℕ) × (slice_get all index ≡ Some answer) × (line ≡ answer_line (Some id.items) answer)
IsLine m last all left (Known id answer) line = line ≡ answer_line (Some id.items) answer.items
IsLine m last all left (Refused id refusal) line = line ≡ answer_line (option_map (λ i. i.items) id) (refusal_words refusal)
IsLine m last all left (Top number) line = line ≡ numbered_words (codes "top") number ++ 10 ∷ []
IsLine m last all left (turns.Cell key after) line = IsCellLine m (last - after) key line
IsLine m last all left (turns.Digest after) line = IsDigestLine m after (last - after) line
IsLine m last all left Future line = line ≡ codes "refused: future" ++ 10 ∷ []
IsLine m last all left Trimmed line = line ≡ trimmed_line

-- the answers that are left behind a request with this turn
abbrev pub left_behind : Turn → List (List ℕ) → List (List ℕ)
left_behind (Stored id) (answer ∷ more) = more
left_behind _ left = left

-- the text is that of the lines that answer requests with these turns
abbrev pub AreLines : Timeline → ℕ → List (List ℕ) → List (List ℕ) → List Turn → List ℕ → Type 0
AreLines m last all left [] text = text ≡ []
AreLines m last all left (t ∷ ts) text =
    (line : List ℕ) × (rest : List ℕ) × (text ≡ line ++ rest) × IsLine m last all left t line × AreLines m last all (left_behind t left) ts rest
