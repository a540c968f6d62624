-- How a loosely written line is read: the line that an exact text has instead.
use Rattle.std.specs.Prelude.{ℕ, List, [], ◌∷◌, ◌++◌, Bool, true, false, ◌||◌, ◌&&◌, ◌==◌}
use Rattle.std.specs.Prelude.{Option, Some, None, if◌then◌else◌, codes, take, drop, length, ◌-◌, not}
use Rattle.std.specs.List.{position_from}
use Rattle.std.specs.Str.{bytes_eq}
use Rattle.bohm_text.specs.Cut.{split}
use Rattle.bohm_tidy.specs.declared.line.Gap.{Gap}
use Rattle.bohm_tidy.specs.declared.line.Gap.TheVariants.{Start, Sum, First, Further, Atom}

-- ---- the part of a line that counts

-- a carriage return is removed only at a line's end
abbrev pub without_return : List ℕ → List ℕ
without_return bs = if bytes_eq (drop (length bs - 1) bs) (13 ∷ []) then take (length bs - 1) bs else bs

abbrev pub up_to : Option ℕ → List ℕ → List ℕ
up_to None bs = bs
up_to (Some k) bs = take k bs

-- up to the first #
abbrev pub before_comment : List ℕ → List ℕ
before_comment bs = up_to (position_from (λ b. b == 35) 0 bs) bs

-- ---- words

-- + - < = >
abbrev pub is_sign : ℕ → Bool
is_sign b = (b == 43) || (b == 45) || (b == 60) || (b == 61) || (b == 62)

-- a word ends between the two bytes: one of them is a sign, and they aren't <= or >=
abbrev pub is_cut : ℕ → ℕ → Bool
is_cut b c = if (c == 61) && ((b == 60) || (b == 62)) then false else (is_sign b || is_sign c)

-- a tab becomes a space
abbrev pub shown : ℕ → ℕ
shown b = if b == 9 then 32 else b

abbrev pub cut_text : Bool → ℕ → ℕ → List ℕ
cut_text signs b c = if signs && is_cut b c then 32 ∷ [] else []

-- the bytes with spaces around signs, if signs are separate words; `before` is the byte before them
unfoldable pub apart : Bool → ℕ → List ℕ → List ℕ
apart signs before [] = []
apart signs before (b ∷ bs) = (cut_text signs before b ++ shown b ∷ []) ++ apart signs b bs

-- ---- the exact line

abbrev pub is_minus : List ℕ → Bool
is_minus word = bytes_eq word (codes "-")

abbrev pub is_plus : List ℕ → Bool
is_plus word = bytes_eq word (codes "+")

unfoldable pub starts_sign : List ℕ → Bool
starts_sign [] = false
starts_sign (b ∷ bs) = is_sign b

unfoldable pub gap_behind : List ℕ → Gap
gap_behind word = if starts_sign word then Sum else Atom

-- the gap after a word. A `when` after an atom ends a sum. The sign of a term waits for the term: two minus signs are a plus
unfoldable pub next_gap : Gap → Bool → List ℕ → Gap
next_gap Start signs word = if signs then Sum else Atom
next_gap Sum signs word = if is_minus word then First true else gap_behind word
next_gap (First taken) signs word = if is_minus word then First (not taken) else gap_behind word
next_gap (Further taken) signs word = if is_minus word then Further (not taken) else gap_behind word
next_gap Atom signs word =
    if signs && is_minus word then Further true
    else (if signs && is_plus word then Further false else (if bytes_eq word (codes "when") then Sum else gap_behind word))

-- the word is a sign that waits for its term
abbrev pub is_held_back : Gap → Bool → List ℕ → Bool
is_held_back Start signs word = false
is_held_back Sum signs word = is_minus word
is_held_back (First taken) signs word = is_minus word
is_held_back (Further taken) signs word = is_minus word
is_held_back Atom signs word = signs && (is_minus word || is_plus word)

-- 0 is added, not taken away
abbrev pub is_taken : Bool → List ℕ → Bool
is_taken taken word = taken && not (bytes_eq word (codes "0"))

-- what precedes a word
unfoldable pub sign_before : Gap → List ℕ → List ℕ
sign_before Start word = []
sign_before Sum word = codes " "
sign_before (First taken) word = if is_taken taken word then (if starts_sign word then codes " - " else codes " -") else codes " "
sign_before (Further taken) word = if is_taken taken word then codes " - " else codes " + "
sign_before Atom word = codes " "

abbrev pub word_text : Gap → Bool → List ℕ → List ℕ
word_text gap signs word = if is_held_back gap signs word then [] else sign_before gap word ++ word

-- a sign that no term follows
abbrev pub sign_alone : Gap → List ℕ
sign_alone Start = []
sign_alone Sum = []
sign_alone (First taken) = if taken then codes " -" else []
sign_alone (Further taken) = if taken then codes " -" else codes " +"
sign_alone Atom = []

-- the words that aren't empty, with the gaps of an exact line
unfoldable pub joined : Bool → Gap → List (List ℕ) → List ℕ
joined signs gap [] = sign_alone gap
joined signs gap ([] ∷ words) = joined signs gap words
joined signs gap ((b ∷ bs) ∷ words) = word_text gap signs (b ∷ bs) ++ joined signs (next_gap gap signs (b ∷ bs)) words

-- the line of an exact text: empty if the line has no words
abbrev pub exact_line : Bool → List ℕ → List ℕ
exact_line signs line = joined signs Start (split 32 (apart signs 32 (before_comment (without_return line))))
