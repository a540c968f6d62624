-- How many lines a text has, also without a byte order mark.
use Rattle.std.proofs.Common.{◌≡◌, ℕ, ◌≤◌, Bool, true, false, List, [], ◌∷◌, ◌++◌, length, take, drop, refl, ap, sym, subst, ◌∙◌, arith}
use Rattle.std.specs.Prelude.{if◌then◌else◌, ◌==◌}
use Rattle.std.specs.Str.{bytes_eq}
use Rattle.std.proofs.lemmas.List.{take-append-drop}
use Rattle.std.proofs.lemmas.Slice.Eq.{bytes_eq-Decides}
use Rattle.bohm_text.specs.Cut.{onto_first, split}
use Rattle.bohm_tidy.specs.Plain.{without_mark}

onto_length : (b : ℕ) (parts : List (List ℕ)) → length (onto_first b parts) ≡ length parts
onto_length b [] = refl
onto_length b (part ∷ parts) = refl

one_of : (b : ℕ) (parts : List (List ℕ)) (e : Bool) → 1 ≤ length parts → 1 ≤ length (if e then [] ∷ parts else onto_first b parts)
one_of b parts true some = omega arith
one_of b parts false some = subst (λ (n : ℕ). 1 ≤ n) (sym (onto_length b parts)) some

pub some_line : (bs : List ℕ) → 1 ≤ length (split 10 bs)
unfolding split
some_line [] = omega arith
some_line (b ∷ bs) = one_of b (split 10 bs) (b == 10) (some_line bs)

behind_mark : (rest : List ℕ) → length (split 10 (239 ∷ 187 ∷ 191 ∷ rest)) ≡ length (split 10 rest)
unfolding split
behind_mark rest =
    onto_length 239 (onto_first 187 (onto_first 191 (split 10 rest)))
    ∙ onto_length 187 (onto_first 191 (split 10 rest))
    ∙ onto_length 191 (split 10 rest)

-- the text has as many lines without the mark
pub same_lines : (text : List ℕ) → length (split 10 (without_mark text)) ≡ length (split 10 text)
same_lines text = go (bytes_eq (take 3 text) (239 ∷ 187 ∷ 191 ∷ [])) refl
  where
    go : (b : Bool) → bytes_eq (take 3 text) (239 ∷ 187 ∷ 191 ∷ []) ≡ b → length (split 10 (if b then drop 3 text else text)) ≡ length (split 10 text)
    go false e = refl
    go true e =
        let marked : take 3 text ≡ 239 ∷ 187 ∷ 191 ∷ [] = (bytes_eq-Decides (take 3 text) (239 ∷ 187 ∷ 191 ∷ [])).0 e in
        sym (behind_mark (drop 3 text))
        ∙ ap (λ (bs : List ℕ). length (split 10 (bs ++ drop 3 text))) (sym marked)
        ∙ ap (λ (bs : List ℕ). length (split 10 bs)) (take-append-drop 3 text)
