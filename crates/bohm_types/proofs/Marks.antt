-- Comparing the bytes of a number at once: no mark is set exactly if none of them is the byte sought.
use Rattle.std.proofs.Common.{◌≡◌, ℕ, zero, suc, ◌+◌, ◌*◌, ◌/◌, ◌%◌, ◌^◌, ◌<◌, ◌≤◌, Bool, true, false, cond, Some, None, w8}
use Rattle.std.proofs.Common.{List, [], ◌∷◌, length, map, replicate, refl, sym, subst, ◌∙◌, arith}
use Rattle.std.specs.Prelude.{◌==◌}
use Rattle.std.specs.List.{AllByRecursion, position_from}
use Rattle.std.specs.Int.{w64, byte_at, from_be_bytes, to_be_bytes}
use Rattle.std.specs.Simd.Lanes.{mask_l, top, zip2}
use Rattle.std.proofs.lemmas.Nat.{be_bytes_8}
use Rattle.std.proofs.lemmas.Simd.{bitmask_splat}
use Rattle.std.proofs.lemmas.Bool.Decides.{nat_tests}
use Rattle.bohm_types.specs.Words.{padded}
use Rattle.bohm_types.specs.Spreading.{AreBytes, padded-length}
use Rattle.bohm_types.proofs.Words.{padded_any}

-- the bytes of a number, the least significant first
abbrev bytes_in : ℕ → List ℕ
bytes_in w = w % 256 ∷ w / 256 % 256 ∷ w / 256 / 256 % 256 ∷ w / 256 / 256 / 256 % 256 ∷ w / 256 / 256 / 256 / 256 % 256
    ∷ w / 256 / 256 / 256 / 256 / 256 % 256 ∷ w / 256 / 256 / 256 / 256 / 256 / 256 % 256 ∷ w / 256 / 256 / 256 / 256 / 256 / 256 / 256 % 256 ∷ []

bytes_at : (w : ℕ) → bytes_in w ≡ byte_at 0 w ∷ byte_at 1 w ∷ byte_at 2 w ∷ byte_at 3 w ∷ byte_at 4 w ∷ byte_at 5 w ∷ byte_at 6 w ∷ byte_at 7 w ∷ []
bytes_at w = c (omega arith) (c (omega arith) (c (omega arith) (c (omega arith) (c (omega arith) (c (omega arith) (c (omega arith) (c (omega arith) refl)))))))
  where
    -- lists are equal if their first bytes and their other bytes are
    c : {x y : ℕ} {xs ys : List ℕ} → x ≡ y → xs ≡ ys → x ∷ xs ≡ y ∷ ys
    c p q = λ i. p i ∷ q i

module _ (test : ℕ → Bool) where
  abbrev AreOthers : List ℕ → Type 0
  AreOthers xs = AllByRecursion (λ x. test x ≡ false) xs

  unmarked : (xs : List ℕ) → mask_l (map test xs) ≡ 0 → AreOthers xs
  unmarked [] e = tt
  unmarked (x ∷ xs) e =
      let P : Bool → Type 0 = λ (t : Bool). cond t 1 0 + 2 * mask_l (map test xs) ≡ 0 → (t ≡ false) × AreOthers xs in
      elim (test x) as P [ true ↦ λ h. absurd (omega (arith, h)) | false ↦ λ h. (refl, unmarked xs (omega (arith, h))) ] e

  none_marked : (xs : List ℕ) → AreOthers xs → mask_l (map test xs) ≡ 0
  none_marked [] others = refl
  none_marked (x ∷ xs) others = rw (others.0) (omega (arith, none_marked xs others.1))

  in_front : (n : ℕ) (xs : List ℕ) → length xs ≤ n → AreOthers (padded n xs) → AreOthers xs
  in_front n [] h others = tt
  in_front zero (x ∷ xs) h others = absurd (omega (arith, h))
  in_front (suc n) (x ∷ xs) h others = (others.0, in_front n xs (omega (arith, h)) others.1)

  none_among : (n : ℕ) (xs : List ℕ) → AreOthers xs → position_from test n xs ≡ None
  none_among n [] others = refl
  none_among n (x ∷ xs) others = rw (others.0) (none_among (n + 1) xs others.1)

  others_among : (n : ℕ) (xs : List ℕ) → position_from test n xs ≡ None → AreOthers xs
  others_among n [] none = tt
  others_among n (x ∷ xs) none =
      let P : Bool → Type 0 = λ (t : Bool). cond t (Some n) (position_from test (n + 1) xs) ≡ None → (t ≡ false) × AreOthers xs in
      elim (test x) as P [ true ↦ λ h. absurd cc | false ↦ λ h. (refl, others_among (n + 1) xs h) ] none

  padded_others : (n : ℕ) (xs : List ℕ) → test 0 ≡ false → AreOthers xs → AreOthers (padded n xs)
  padded_others zero xs zeros others = tt
  padded_others (suc n) [] zeros others = (zeros, padded_others n [] zeros others)
  padded_others (suc n) (x ∷ xs) zeros others = (others.0, padded_others n xs zeros others.1)

  -- the same holds of eight bytes in the opposite order
  reversed : (a b c d e f g h : ℕ) → AreOthers (a ∷ b ∷ c ∷ d ∷ e ∷ f ∷ g ∷ h ∷ []) → AreOthers (h ∷ g ∷ f ∷ e ∷ d ∷ c ∷ b ∷ a ∷ [])
  reversed a b c d e f g h o =
      (o.1.1.1.1.1.1.1.0, (o.1.1.1.1.1.1.0, (o.1.1.1.1.1.0, (o.1.1.1.1.0, (o.1.1.1.0, (o.1.1.0, (o.1.0, (o.0, tt))))))))

  to_be : (w : ℕ) → AreOthers (bytes_in w) → AreOthers (to_be_bytes w64 w)
  to_be w o = reversed _ _ _ _ _ _ _ _ (subst AreOthers (bytes_at w) o)

  from_be : (w : ℕ) → AreOthers (to_be_bytes w64 w) → AreOthers (bytes_in w)
  from_be w o = subst AreOthers (sym (bytes_at w)) (reversed _ _ _ _ _ _ _ _ o)

-- the mask of the bytes of a number that equal a given byte
abbrev pub marks : ℕ → ℕ → ℕ
marks byte w = mask_l (map (top 7) (zip2 (λ a b. cond (a == b) 255 0) (bytes_in w) (replicate 8 byte))) % 2 ^ 64

-- searching a word for a byte by its number
module _ (word : List ℕ) (packed byte : ℕ) (bytes : AreBytes word) (few : length word ≤ 8) (e : packed ≡ from_be_bytes w64 (padded 8 word)) where
  abbrev test : ℕ → Bool
  test b = b == byte

  abbrev block : List ℕ
  block = bytes_in (packed + 0)

  marked : marks byte (packed + 0) ≡ mask_l (map test block)
  marked = bitmask_splat w8 (λ a b. a == b) block 8 byte refl (omega arith)

  unpacked : to_be_bytes w64 (packed + 0) ≡ padded 8 word
  unpacked = be_bytes_8 (padded 8 word) (packed + 0) (padded-length 8 word) (padded_any 8 word bytes) (omega (arith, e))

  pub lacks_marked : marks byte (packed + 0) ≡ 0 → position_from test 0 word ≡ None
  lacks_marked none = none_among test 0 word
      (in_front test 8 word few (subst (AreOthers test) unpacked (to_be test (packed + 0) (unmarked test block (sym marked ∙ none)))))

  pub marked_where_found : 0 < byte → position_from test 0 word ≡ None → marks byte (packed + 0) ≡ 0
  marked_where_found some none =
      let zeros : test 0 ≡ false = grind (arith, nat_tests, some) in
      marked ∙ none_marked test block (from_be test (packed + 0)
      (subst (AreOthers test) (sym unpacked) (padded_others test 8 word zeros (others_among test 0 word none))))
