-- The text of a document is tidy.
use Rattle.std.proofs.Common.{◌≡◌, ℕ, ◌<◌, List, [], ◌∷◌, ◌++◌, map, refl, ap, sym, ◌∙◌, arith, append_assoc}
use Rattle.std.specs.List.{flat_map, AllByRecursion}
use Rattle.bohm_types.specs.Document.{Document}
use Rattle.bohm_types.specs.Sound.{IsDocument}
use Rattle.std.proofs.lemmas.List.{append-nil}
use Rattle.bohm_text.specs.Print.{Words, spaced, line_text, lines_text, head_words, store_words, txn_lines, doc_lines, print_doc}
use Rattle.bohm_text.specs.Tidy.{IsTextByte, IsApart, AreApart, IsTidy}
use Rattle.bohm_text.proofs.WordLaws.{IsWord, IsWordByte, word_bytes, word_byte-above, IsLine, doc_are_lines}
use Rattle.bohm_log.proofs.ForCallers.{each_append}

-- ---- bytes

text_byte : (b : ℕ) → IsWordByte b → IsTextByte b
text_byte b e = rw e refl

text_bytes : (w : List ℕ) → AllByRecursion IsWordByte w → AllByRecursion IsTextByte w
text_bytes [] all = tt
text_bytes (b ∷ bs) all = (text_byte b all.0, text_bytes bs all.1)

spaced_bytes : (ws : Words) → AllByRecursion IsWord ws → AllByRecursion IsTextByte (spaced ws)
spaced_bytes [] words = tt
spaced_bytes (w ∷ ws) words = (refl, each_append IsTextByte w (spaced ws) (text_bytes w (word_bytes w words.0)) (spaced_bytes ws words.1))

line_bytes : (ws : Words) → AllByRecursion IsWord ws → AllByRecursion IsTextByte (line_text ws)
line_bytes [] words = tt
line_bytes (w ∷ ws) words = each_append IsTextByte w (spaced ws) (text_bytes w (word_bytes w words.0)) (spaced_bytes ws words.1)

lines_bytes : (lines : List Words) → AllByRecursion IsLine lines → AllByRecursion IsTextByte (lines_text lines)
lines_bytes [] all = tt
lines_bytes (l ∷ ls) all = each_append IsTextByte (line_text l ++ 10 ∷ []) (lines_text ls)
    (each_append IsTextByte (line_text l) (10 ∷ []) (line_bytes l all.0.1) (refl, tt)) (lines_bytes ls all.1)

-- ---- adjacent bytes

-- a byte of a word may be beside any byte
after_word : (a b : ℕ) → IsWordByte a → IsApart a b
after_word a b word = record { after_space = λ e. absurd (let above : 32 < a = word_byte-above a word in omega arith); before_space = λ _. word }

before_word : (a b : ℕ) → IsWordByte b → IsApart a b
before_word a b word = record { after_space = λ _. word; before_space = λ e. absurd (let above : 32 < b = word_byte-above b word in omega arith) }

-- the last of these bytes, or the byte before them if there are none
last_from : ℕ → List ℕ → ℕ
last_from a [] = a
last_from a (b ∷ bs) = last_from b bs

last_word : (a : ℕ) (w : List ℕ) → IsWordByte a → AllByRecursion IsWordByte w → IsWordByte (last_from a w)
unfolding last_from
last_word a [] word all = word
last_word a (b ∷ bs) word all = last_word b bs all.0 all.1

apart-append : (a : ℕ) (xs ys : List ℕ) → AreApart a xs → AreApart (last_from a xs) ys → AreApart a (xs ++ ys)
unfolding last_from
apart-append a [] ys one two = two
apart-append a (x ∷ xs) ys one two = (one.0, apart-append x xs ys one.1 two)

word_apart : (a : ℕ) (w : List ℕ) → AllByRecursion IsWordByte w → AreApart a w
word_apart a [] all = tt
word_apart a (b ∷ bs) all = (before_word a b all.0, word_apart b bs all.1)

-- a word ends with a byte of a word, whatever byte precedes the word
word_end : (a : ℕ) (w : List ℕ) → IsWord w → IsWordByte (last_from a w)
unfolding last_from
word_end a [] word = absurd cc
word_end a (b ∷ bs) word = let all = word_bytes (b ∷ bs) word in last_word b bs all.0 all.1

spaced_apart : (a : ℕ) (ws : Words) → IsWordByte a → AllByRecursion IsWord ws → AreApart a (spaced ws) × IsWordByte (last_from a (spaced ws))
unfolding last_from
spaced_apart a [] word words = (tt, word)
spaced_apart a (w ∷ ws) word words =
    let rest = spaced_apart (last_from 32 w) ws (word_end 32 w words.0) words.1 in
    ((after_word a 32 word, apart-append 32 w (spaced ws) (word_apart 32 w (word_bytes w words.0)) rest.0), rw (last_from-append 32 w (spaced ws)) rest.1)
  where
    last_from-append : (a : ℕ) (xs ys : List ℕ) → last_from a (xs ++ ys) ≡ last_from (last_from a xs) ys
    last_from-append a [] ys = refl
    last_from-append a (x ∷ xs) ys = last_from-append x xs ys

newline_after : (a : ℕ) → IsWordByte a → AreApart a (10 ∷ [])
newline_after a word = (after_word a 10 word, tt)

line_apart : (a : ℕ) (ws : Words) → IsLine ws → AreApart a (line_text ws ++ 10 ∷ [])
line_apart a [] line = absurd (omega (arith, line.0))
line_apart a (w ∷ ws) line =
    let rest = spaced_apart (last_from a w) ws (word_end a w line.1.0) line.1.1 in
    let first : AreApart a w = word_apart a w (word_bytes w line.1.0) in
    rw (append_assoc w (spaced ws) (10 ∷ [])) (apart-append a w (spaced ws ++ 10 ∷ []) first
    (apart-append (last_from a w) (spaced ws) (10 ∷ []) rest.0 (newline_after (last_from (last_from a w) (spaced ws)) rest.1)))

last_push : (a b : ℕ) (xs : List ℕ) → last_from a (xs ++ b ∷ []) ≡ b
unfolding last_from
last_push a b [] = refl
last_push a b (x ∷ xs) = last_push x b xs

lines_apart : (lines : List Words) → AllByRecursion IsLine lines → AreApart 10 (lines_text lines)
lines_apart [] all = tt
lines_apart (l ∷ ls) all =
    let next : AreApart (last_from 10 (line_text l ++ 10 ∷ [])) (lines_text ls) = rw (last_push 10 10 (line_text l)) (lines_apart ls all.1) in
    apart-append 10 (line_text l ++ 10 ∷ []) (lines_text ls) (line_apart 10 l all.0) next

-- ---- the newline at the end, and whole texts

ends_with : (l : Words) (ls : List Words) → (before : List ℕ) × (lines_text (l ∷ ls) ≡ before ++ 10 ∷ [])
ends_with l [] = (line_text l, rw (append-nil (line_text l ++ 10 ∷ [])) refl)
ends_with l (m ∷ ms) =
    let h = ends_with m ms in
    ((line_text l ++ 10 ∷ []) ++ h.0, ap (λ (r : List ℕ). (line_text l ++ 10 ∷ []) ++ r) h.1 ∙ sym (append_assoc (line_text l ++ 10 ∷ []) h.0 (10 ∷ [])))

pub tidy_text : (d : Document) → IsDocument d → IsTidy (print_doc d)
tidy_text d sound =
    let end = ends_with (head_words d.edition) (map store_words d.store ++ flat_map txn_lines d.log) in
    record {
      before_end = end.0;
      ends = end.1;
      apart = lines_apart (doc_lines d) (doc_are_lines d sound);
      bytes = lines_bytes (doc_lines d) (doc_are_lines d sound);
    }
