-- The words of a name at the beginning of a longer text.
use Rattle.std.proofs.Common.{◌≡◌, ℕ, zero, suc, ◌+◌, ◌-◌, ◌≤◌, List, [], ◌∷◌, length, take, drop, refl, ap, sym, ◌∙◌, arith}
use Rattle.std.specs.Int.{w64, from_be_bytes}
use Rattle.std.proofs.lemmas.List.{take_rest, drop-take, drop_all, length-take}
use Rattle.bohm_types.specs.Words.{padded, words_of}
use Rattle.bohm_types.proofs.Words.{four_words}

-- a word depends on the bytes in it alone
pub padded_take : (k n : ℕ) (xs : List ℕ) → k ≤ n → padded k (take n xs) ≡ padded k xs
padded_take zero n xs h = refl
padded_take (suc k) zero xs h = absurd (omega (arith, h))
padded_take (suc k) (suc n) [] h = refl
padded_take (suc k) (suc n) (x ∷ xs) h = ap (λ ys. x ∷ ys) (padded_take k n xs (omega (arith, h)))

twice : (i j n : ℕ) (xs : List ℕ) → n ≡ j + i → drop i (drop j xs) ≡ drop n xs
twice i zero n xs e = ap (λ m. drop m xs) (omega (arith, e))
twice i (suc j) zero xs e = absurd (omega (arith, e))
twice zero (suc j) (suc n) [] e = refl
twice (suc i) (suc j) (suc n) [] e = refl
twice i (suc j) (suc n) (x ∷ xs) e = twice i j n xs (omega (arith, e))

-- the word at an offset of a name of a size, read from the text behind the offset
module _ (text : List ℕ) (size : ℕ) where
  rest : (i : ℕ) → i ≤ size → take (size - i) (take (length text - i) (drop i text)) ≡ drop i (take size text)
  rest i h =
      let whole : i + (size - i) ≡ size = omega (arith, h) in
      ap (take (size - i)) (take_rest text i) ∙ sym (drop-take i (size - i) text) ∙ ap (λ m. drop i (take m text)) whole

  abbrev word_at : ℕ → ℕ
  word_at i = from_be_bytes w64 (padded 8 (take (size - i) (take (length text - i) (drop i text))))

  at : (i w : ℕ) → i ≤ size → w ≡ word_at i → w ≡ from_be_bytes w64 (padded 8 (drop i (take size text)))
  at i w h e = e ∙ ap (λ xs. from_be_bytes w64 (padded 8 xs)) (rest i h)

  none : (i : ℕ) → size ≤ i → [] ≡ drop i (take size text)
  none i h = sym (drop_all i (take size text) (omega (arith, h, length-take size text)))

  pub two_read : (a b : ℕ) → 8 ≤ size → size ≤ 16 → a ≡ from_be_bytes w64 (padded 8 (take size text)) → b ≡ word_at 8
      → a ∷ b ∷ 0 ∷ 0 ∷ [] ≡ words_of (take size text)
  two_read a b h g first second =
      four_words (take size text) (drop 8 (take size text)) [] [] a b 0 0 refl (none 16 g ∙ sym (twice 8 8 16 (take size text) (omega arith))) refl
      first (at 8 b h second) refl refl

  pub three_read : (a b c : ℕ) → 16 ≤ size → size ≤ 24 → a ≡ from_be_bytes w64 (padded 8 (take size text)) → b ≡ word_at 8 → c ≡ word_at 16
      → a ∷ b ∷ c ∷ 0 ∷ [] ≡ words_of (take size text)
  three_read a b c h g first second third =
      four_words (take size text) (drop 8 (take size text)) (drop 16 (take size text)) [] a b c 0 refl (sym (twice 8 8 16 (take size text) (omega arith)))
      (none 24 g ∙ sym (twice 8 16 24 (take size text) (omega arith))) first (at 8 b (omega (arith, h)) second) (at 16 c h third) refl

  pub four_read : (a b c d : ℕ) → 24 ≤ size → a ≡ from_be_bytes w64 (padded 8 (take size text)) → b ≡ word_at 8 → c ≡ word_at 16 → d ≡ word_at 24
      → a ∷ b ∷ c ∷ d ∷ [] ≡ words_of (take size text)
  four_read a b c d h first second third fourth =
      four_words (take size text) (drop 8 (take size text)) (drop 16 (take size text)) (drop 24 (take size text)) a b c d
      refl (sym (twice 8 8 16 (take size text) (omega arith))) (sym (twice 8 16 24 (take size text) (omega arith)))
      first (at 8 b (omega (arith, h)) second) (at 16 c (omega (arith, h)) third) (at 24 d h fourth)
