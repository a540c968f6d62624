-- A word is ahead (`is_ahead`) exactly if the line begins with this word and a space.
use Rattle.std.proofs.Common.{◌≡◌, ◌≢◌, ℕ, ◌<◌, true, false, List, [], ◌∷◌, ◌++◌, length, drop, Some, None, refl, ap, sym, ◌∙◌, arith}
use Rattle.std.specs.Prelude.{Option, IfSome, IfNone, MatchOption, codes, is_some}
use Rattle.std.specs.Borrow.{Bor}
use Rattle.std.specs.Str.{bytes_eq}
use Rattle.std.proofs.lemmas.Bool.Decides.{same_from_decides}
use Rattle.std.proofs.lemmas.Slice.Eq.{bytes_eq-Decides}
use Rattle.bohm_text.specs.Print.{Words, line_text}
use Rattle.bohm_text.specs.Ahead.{is_ahead}
use Rattle.bohm_text.specs.Cut.{split}
use Rattle.bohm_text.proofs.Cutting.{IsWithout, split_more, split-some}
use Rattle.bohm_text.proofs.StepTakes.{words_line}

not_ahead : (word line : List ℕ) (words : Words) → split 32 line ≡ words → ((rest : List ℕ) → line ≢ word ++ 32 ∷ rest) → is_ahead word words ≡ false
not_ahead word line [] e h = refl
not_ahead word line (first ∷ []) e h = refl
not_ahead word line (first ∷ next ∷ words) e h = sym (same_from_decides false (bytes_eq first word) (there, back) (bytes_eq-Decides first word))
  where
    there : false ≡ true → first ≡ word
    there t = absurd cc

    back : first ≡ word → false ≡ true
    back q =
        let behind : List ℕ = line_text (next ∷ words) in
        absurd (h behind (sym (words_line line (first ∷ next ∷ words) e) ∙ ap (λ (w : List ℕ). w ++ 32 ∷ behind) q))

ahead : (word : List ℕ) (words : Words) → 0 < length words → is_ahead word (word ∷ words) ≡ true
ahead word [] some = absurd (omega (arith, some))
ahead word (next ∷ words) some = (bytes_eq-Decides word word).1 refl

found : (word line rest : List ℕ) → IsWithout 32 word → line ≡ word ++ 32 ∷ rest → split 32 line ≡ word ∷ split 32 rest
found word line rest lacks e = ap (split 32) e ∙ split_more 32 word rest lacks

-- stripping `word` and a space succeeds exactly if the line's first word is `word` and another word follows
pub is_begun : (word line : List ℕ) (r : Option (Bor (List ℕ))) → IsWithout 32 word → IfSome r (λ rest. line ≡ word ++ 32 ∷ rest.now)
    → IfNone r ((rest : List ℕ) → line ≢ word ++ 32 ∷ rest) → is_some r ≡ is_ahead word (split 32 line)
is_begun word line None lacks some none = sym (not_ahead word line (split 32 line) refl none)
is_begun word line (Some rest) lacks some none =
    sym (ap (is_ahead word) (found word line rest.now lacks some) ∙ ahead word (split 32 rest.now) (split-some 32 rest.now))

-- stripping `word` and a space leaves the words after the first word, or `is_ahead` is false
pub behind_word : (word line : List ℕ) (r : Option (Bor (List ℕ))) → IsWithout 32 word → IfSome r (λ rest. line ≡ word ++ 32 ∷ rest.now)
    → IfNone r ((rest : List ℕ) → line ≢ word ++ 32 ∷ rest)
    → MatchOption r (is_ahead word (split 32 line) ≡ false) (λ rest. split 32 line ≡ word ∷ split 32 rest.now)
behind_word word line None lacks some none = not_ahead word line (split 32 line) refl none
behind_word word line (Some rest) lacks some none = found word line rest.now lacks some

-- `need` is stripped in two steps: the word, then the space after the word
pub no_need : (line : List ℕ) → ((rest : List ℕ) → line ≢ codes "need" ++ rest) → is_ahead (codes "need") (split 32 line) ≡ false
no_need line none = not_ahead (codes "need") line (split 32 line) refl (λ rest e. none (32 ∷ rest) e)

pub behind_need : (line spaced : List ℕ) (r : Option (Bor (List ℕ))) → line ≡ codes "need" ++ spaced → IfSome r (λ rest. spaced ≡ codes " " ++ rest.now)
    → IfNone r ((rest : List ℕ) → spaced ≢ codes " " ++ rest)
    → MatchOption r (is_ahead (codes "need") (split 32 line) ≡ false) (λ rest. split 32 line ≡ codes "need" ∷ split 32 rest.now)
behind_need line spaced None e some none =
    not_ahead (codes "need") line (split 32 line) refl (λ rest q. none rest (ap (drop 4) (sym e ∙ q)))
behind_need line spaced (Some rest) e some none =
    found (codes "need") line rest.now (refl, (refl, (refl, (refl, tt)))) (e ∙ ap (λ r. codes "need" ++ r) some)
