-- Texts that are put together from pieces.
use Rattle.std.specs.Prelude.{ℕ, ◌+◌, ◌-◌, ◌*◌, ◌/◌, ◌%◌, ◌==◌, List, [], ◌∷◌, ◌++◌, length, replicate, flat_map, decimal, if◌then◌else◌}
use Rattle.bohm_explain.specs.declared.pieces.Piece.{Piece}
use Rattle.bohm_explain.specs.declared.pieces.Piece.TheVariants.{Text, Decimal, Long, Hundredths, Quotient, Right, Left, Number, Share}

-- a text in a column, right-aligned and left-aligned
abbrev pub cell : ℕ → List ℕ → List ℕ
cell width text = replicate (width - length text) 32 ++ text

abbrev pub left_cell : ℕ → List ℕ → List ℕ
left_cell width text = text ++ replicate (width - length text) 32

-- a quotient in hundredths, rounded down; 0 if the divisor is 0
abbrev pub hundredths : ℕ → ℕ → ℕ
hundredths n d = if d == 0 then 0 else ((n * 100) / d)

-- a number of hundredths with two decimals, right-aligned in a column
abbrev pub hundredths_cell : ℕ → ℕ → List ℕ
hundredths_cell width h = cell (width - 3) (decimal (h / 100)) ++ 46 ∷ (48 + (h / 10) % 10) ∷ (48 + h % 10) ∷ []

abbrev pub piece_text : Piece → List ℕ
piece_text (Text text) = text.now
piece_text (Decimal text n) = text.now ++ decimal n
piece_text (Long text n) = text.now ++ decimal n
piece_text (Hundredths text h) = text.now ++ hundredths_cell 0 h
piece_text (Quotient text n d) = text.now ++ hundredths_cell 0 (hundredths n d)
piece_text (Right width text) = cell width text.now
piece_text (Left width text) = left_cell width text.now
piece_text (Number width n) = cell width (decimal n)
piece_text (Share width n d) = hundredths_cell width (hundredths n d)

-- texts one after another
abbrev pub joined : List (List ℕ) → List ℕ
joined texts = flat_map (λ text. text) texts

-- the items' texts, with commas between them
abbrev pub listed : {A : Type 0} → (A → List ℕ) → List A → List ℕ
listed text [] = []
listed text (x ∷ xs) = text x ++ flat_map (λ y. 44 ∷ text y) xs
