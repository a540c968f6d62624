-- Searching many bytes at once finds the first separator.
use Rattle.std.proofs.Common.{◌≡◌, ℕ, zero, suc, ◌+◌, ◌*◌, ◌%◌, ◌^◌, ◌<◌, ◌≤◌, Bool, true, false, not, List, [], ◌∷◌, cond}
use Rattle.std.proofs.Common.{map, take, replicate, w8, length, Option, Some, None, refl, ap, sym, subst, ◌∙◌, slice_index, arith}
use Rattle.std.specs.Prelude.{◌==◌}
use Rattle.std.specs.List.{position_from, prefix_len}
use Rattle.std.specs.Int.Count.{count_trailing_zeros}
use Rattle.std.specs.Simd.Lanes.{mask_l, top, zip2}
use Rattle.std.proofs.lemmas.List.{length-map, length-take-le, take_all}
use Rattle.std.proofs.lemmas.Simd.{mask_l-mod, tops_compared, trailing_mask_l, zip2_splat}
use Rattle.std.proofs.lemmas.Option.{same_Some}
use Rattle.std.proofs.lemmas.Bool.{false_from_ne_true}
use Rattle.memchr.specs.Find.{IsFirstByte, is_byte}
use Rattle.bohm_text.specs.Parse.{newline_in}

first_there : (test : ℕ → Bool) (xs : List ℕ) (n k : ℕ) → k < length xs → ((j : ℕ) → j < k → ¬ (test (slice_index xs j) ≡ true))
    → test (slice_index xs k) ≡ true → position_from test n xs ≡ Some (n + k)
first_there test [] n k h none is = absurd (omega (arith, h))
first_there test (x ∷ xs) n zero h none is = rw is (ap Some (omega arith))
first_there test (x ∷ xs) n (suc k) h none is =
    let not_here : test x ≡ false = false_from_ne_true (test x) (none 0 (omega arith)) in
    let later : n + 1 + k ≡ n + suc k = omega arith in
    rw not_here (first_there test xs (n + 1) k (omega (arith, h)) (λ j less. none (suc j) (omega (arith, less))) is ∙ ap Some later)

none_there : (test : ℕ → Bool) (xs : List ℕ) (n : ℕ) → ((j : ℕ) → j < length xs → ¬ (test (slice_index xs j) ≡ true)) → position_from test n xs ≡ None
none_there test [] n none = refl
none_there test (x ∷ xs) n none =
    let not_here : test x ≡ false = false_from_ne_true (test x) (none 0 (omega arith)) in
    rw not_here (none_there test xs (n + 1) (λ j less. none (suc j) (omega (arith, less))))

pub first_newline : (bytes : List ℕ) (r : Option ℕ) → IsFirstByte (is_byte 10) bytes r → r ≡ newline_in bytes
first_newline bytes None h = sym (none_there (is_byte 10) bytes 0 (λ j less. h j (omega arith) less))
first_newline bytes (Some k) h =
    let here : 0 + k ≡ k = omega arith in
    sym (first_there (is_byte 10) bytes 0 k h.0.high (λ j less. h.0.before j (omega arith) less) h.1 ∙ ap Some here)

-- an index that was found is within the bytes
inside_from : (test : ℕ → Bool) (n : ℕ) (bytes : List ℕ) (at : ℕ) → position_from test n bytes ≡ Some at → at < n + length bytes
inside_from test n [] at e = absurd cc
inside_from test n (b ∷ bs) at e =
    let P : Bool → Type 0 = λ (t : Bool). cond t (Some n) (position_from test (n + 1) bs) ≡ Some at → at < n + length (b ∷ bs) in
    elim (test b) as P [
      | true ↦ λ h. let same = same_Some n at h in omega (arith, same)
      | false ↦ λ h. let later = inside_from test (n + 1) bs at h in omega (arith, later)
    ] e

pub inside : (c : ℕ) (bytes : List ℕ) (at : ℕ) → position_from (λ b. b == c) 0 bytes ≡ Some at → at < length bytes
inside c bytes at e = let far = inside_from (λ b. b == c) 0 bytes at e in omega (arith, far)

-- if the mask of a block isn't 0, its lowest bit set is at the index of the first byte c
module _ (c : ℕ) where
  abbrev other : ℕ → Bool
  other b = not (is_byte c b)

  marked : (k n : ℕ) (bytes : List ℕ) → 0 < mask_l (map (is_byte c) (take k bytes))
      → position_from (is_byte c) n bytes ≡ Some (n + prefix_len other (take k bytes))
  marked zero n bytes some = absurd (omega (arith, some))
  marked (suc k) n [] some = absurd (omega (arith, some))
  marked (suc k) n (b ∷ bs) some =
      let P : Bool → Type 0 = λ (t : Bool). 0 < cond t 1 0 + 2 * mask_l (map (is_byte c) (take k bs))
      → cond t (Some n) (position_from (is_byte c) (n + 1) bs) ≡ Some (n + cond (not t) (1 + prefix_len other (take k bs)) 0) in
      elim (is_byte c b) as P [
        | true ↦ λ _. ap Some (omega arith)
        | false ↦ λ h. marked k (n + 1) bs (omega (arith, h)) ∙ ap Some (omega arith)
      ] some

  -- the mask of a block of n bytes, with a bit set where the byte is c
  abbrev pub marks_of : ℕ → List ℕ → ℕ
  marks_of n block = mask_l (map (top 7) (zip2 (λ a b. cond (a == b) 255 0) block (replicate n c))) % 2 ^ 64

  pub lowest_mark : (n : ℕ) (bytes : List ℕ) → n ≤ 64 → n ≤ length bytes → ¬ (marks_of n (take n bytes) ≡ 0)
      → position_from (is_byte c) 0 bytes ≡ Some (count_trailing_zeros 64 (marks_of n (take n bytes)))
  lowest_mark n bytes few long some =
      let block = take n bytes in
      let size : length block ≡ n = length-take-le n bytes long in
      let bits : map (top 7) (zip2 (λ a b. cond (a == b) 255 0) block (replicate n c)) ≡ map (is_byte c) block =
      tops_compared w8 (λ a b. a == b) block (replicate n c) ∙ zip2_splat (λ a b. a == b) block n c size in
      let same : marks_of n block ≡ mask_l (map (is_byte c) block) =
      ap (λ ms. mask_l ms % 2 ^ 64) bits ∙ mask_l-mod (map (is_byte c) block) 64 (omega (arith, length-map block (is_byte c), size, few)) in
      let there : 0 < mask_l (map (is_byte c) block) = omega (arith, same, some) in
      let lowest = ap (count_trailing_zeros 64) same ∙ trailing_mask_l (is_byte c) 64 block (omega (arith, size, few)) there in
      marked n 0 bytes there ∙ ap Some (omega (arith, lowest))

  pub mark_near : (n : ℕ) (bytes : List ℕ) → n ≤ 64 → n ≤ length bytes → ¬ (marks_of n (take n bytes) ≡ 0)
      → count_trailing_zeros 64 (marks_of n (take n bytes)) < n
  mark_near n bytes few long some =
      let block = take n bytes in
      let size : length block ≡ n = length-take-le n bytes long in
      let twice : take n block ≡ block = take_all n block (omega (arith, size)) in
      let found : position_from (is_byte c) 0 block ≡ Some (count_trailing_zeros 64 (marks_of n block)) =
      subst (λ b. position_from (is_byte c) 0 block ≡ Some (count_trailing_zeros 64 (marks_of n b))) twice
      (lowest_mark n block few (omega (arith, size)) (subst (λ b. ¬ (marks_of n b ≡ 0)) (sym twice) some)) in
      let low = inside_from (is_byte c) 0 block (count_trailing_zeros 64 (marks_of n block)) found in
      omega (arith, low, size)
