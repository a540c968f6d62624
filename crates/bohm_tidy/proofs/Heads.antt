-- The first line with words.
use Rattle.std.proofs.Common.{◌≡◌, ℕ, ◌<◌, ◌++◌, List, [], ◌∷◌, false, length, refl, ap, sym, ◌∙◌, arith}
use Rattle.bohm_text.specs.Cut.{split}
use Rattle.bohm_tidy.specs.Line.{exact_line}
use Rattle.bohm_tidy.specs.Plain.{first_words, or_else}

or_some : (line other : List ℕ) → 0 < length line → or_else line other ≡ line
or_some [] other some = absurd (omega (arith, some))
or_some (b ∷ bs) other some = refl

or_none : (line other : List ℕ) → length line ≡ 0 → or_else line other ≡ other
or_none [] other none = refl
or_none (b ∷ bs) other none = absurd (omega (arith, none))

or_last : (line : List ℕ) → or_else line [] ≡ line
or_last [] = refl
or_last (b ∷ bs) = refl

behind_none : (old more : List ℕ) → length old ≡ 0 → old ++ more ≡ more
behind_none [] more none = refl
behind_none (b ∷ bs) more none = absurd (omega (arith, none))

-- the line has words
pub words_here : (rest line old exact whole : List ℕ) (lines : List (List ℕ)) → split 10 rest ≡ line ∷ lines → length old ≡ 0
    → exact ≡ old ++ exact_line false line → 0 < length exact → first_words (split 10 rest) ≡ whole → exact ≡ whole
unfolding first_words
words_here rest line old exact whole lines cut none made some so_far =
    let is : exact ≡ exact_line false line = made ∙ behind_none old (exact_line false line) none in
    sym (or_some exact (first_words lines) some) ∙ ap (λ (ls : List ℕ). or_else ls (first_words lines)) is ∙ sym (ap first_words cut) ∙ so_far

-- the line has no words
pub words_behind : (rest line old exact whole : List ℕ) (lines : List (List ℕ)) → split 10 rest ≡ line ∷ lines → length old ≡ 0
    → exact ≡ old ++ exact_line false line → length exact ≡ 0 → first_words (split 10 rest) ≡ whole → first_words lines ≡ whole
unfolding first_words
words_behind rest line old exact whole lines cut none made empty so_far =
    let is : exact ≡ exact_line false line = made ∙ behind_none old (exact_line false line) none in
    sym (or_none exact (first_words lines) empty) ∙ ap (λ (ls : List ℕ). or_else ls (first_words lines)) is ∙ sym (ap first_words cut) ∙ so_far

-- the last line
pub words_last : (rest old exact whole : List ℕ) → split 10 rest ≡ rest ∷ [] → length old ≡ 0 → exact ≡ old ++ exact_line false rest
    → first_words (split 10 rest) ≡ whole → exact ≡ whole
unfolding first_words
words_last rest old exact whole cut none made so_far =
    made ∙ behind_none old (exact_line false rest) none ∙ sym (or_last (exact_line false rest)) ∙ sym (ap first_words cut) ∙ so_far
