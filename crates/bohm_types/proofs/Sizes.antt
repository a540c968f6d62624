-- The length of the name that four words hold: it ends where zeros begin in the last word that isn't 0.
use Rattle.std.proofs.Common.{◌≡◌, ◌≢◌, ℕ, zero, suc, ◌+◌, ◌*◌, ◌-◌, ◌/◌, ◌%◌, ◌^◌, ◌<◌, ◌≤◌, List, [], ◌∷◌, ◌++◌}
use Rattle.std.proofs.Common.{length, replicate, slice_index_or, take, drop, true, refl, ap, sym, ◌∙◌, arith}
use Rattle.std.specs.List.{AllByRecursion}
use Rattle.std.specs.Int.{w64, from_be_bytes, trailing_zeros}
use Rattle.std.specs.Int.Count.{count_trailing_zeros}
use Rattle.std.proofs.lemmas.Nat.{pow-add, mod-pow-add}
use Rattle.std.proofs.lemmas.List.{length-drop}
use Rattle.std.proofs.Math.Nat.{mul_assoc, mul-one}
use Rattle.std.proofs.Math.Seq.{take-append_seam}
use Rattle.bohm_types.specs.Name.{is_name}
use Rattle.bohm_types.specs.Shortness.{short}
use Rattle.bohm_types.specs.Spreading.{padded-length, padded-bytes, padded-behind, spread-words, named}
use Rattle.bohm_types.specs.KeyInside.{IsWorded, name_of}
use Rattle.bohm_types.specs.declared.key.Key.TheInside.{Inside}
use Rattle.bohm_types.specs.Words.{padded, spread, words, words_of, IsFilled, IsShort}

-- ---- trailing zeros of a number

even : (k v : ℕ) → v % 2 ≡ 0 → count_trailing_zeros (suc k) v ≡ suc (count_trailing_zeros k (v / 2))
unfolding count_trailing_zeros
even k v e = rw e refl

odd : (k v : ℕ) → v % 2 ≡ 1 → count_trailing_zeros (suc k) v ≡ 0
unfolding count_trailing_zeros
odd k v e = rw e refl

twice : (k v : ℕ) → count_trailing_zeros (suc k) (v * 2) ≡ suc (count_trailing_zeros k v)
twice k v =
    let half : v * 2 / 2 ≡ v = omega arith in
    even k (v * 2) (omega arith) ∙ ap (λ n. suc (count_trailing_zeros k n)) half

shifted : (j n k v : ℕ) → n ≡ j + k → count_trailing_zeros n (v * 2 ^ j) ≡ j + count_trailing_zeros k v
shifted zero n k v e =
    let same : n ≡ k = omega (arith, e) in
    (λ i. count_trailing_zeros (same i) (mul-one v i)) ∙ omega arith
shifted (suc j) zero k v e = absurd (omega (arith, e))
shifted (suc j) (suc n) k v e =
    let more : suc j ≡ j + 1 = omega arith in
    let twofold : v * 2 ^ suc j ≡ v * 2 ^ j * 2 = ap (λ m. v * 2 ^ m) more ∙ ap (λ m. v * m) (pow-add 2 j 1) ∙ sym (mul_assoc v (2 ^ j) 2) in
    ap (count_trailing_zeros (suc n)) twofold ∙ omega (arith, twice n (v * 2 ^ j), shifted j n k v (omega (arith, e)))

low : (j k v : ℕ) → j ≤ k → 0 < v % 2 ^ j → count_trailing_zeros k v < j
low zero k v h g = absurd (omega (arith, g))
low (suc j) zero v h g = absurd (omega (arith, h))
low (suc j) (suc k) v h g = by-digit (low j k (v / 2) (omega (arith, h))) (v % 2) refl
  where
    by-digit : (0 < v / 2 % 2 ^ j → count_trailing_zeros k (v / 2) < j) → (d : ℕ) → v % 2 ≡ d → count_trailing_zeros (suc k) v < suc j
    by-digit less zero e =
        let more : suc j ≡ j + 1 = omega arith in
        let some : 0 < v / 2 % 2 ^ j = omega (arith, ap (λ m. v % 2 ^ m) more ∙ mod-pow-add v j 1, e, g) in
        omega (arith, even k v e, less some)
    by-digit less (suc zero) e = omega (arith, odd k v e)
    by-digit less (suc (suc d)) e = absurd (omega (arith, e))

ended : (n v j : ℕ) → n ≡ v * 2 ^ j → 0 < v % 2 ^ 8 → j ≤ 56 → (j ≤ trailing_zeros w64 n) × (trailing_zeros w64 n < j + 8)
ended n v j e h g =
    let whole : 64 ≡ j + (64 - j) = omega (arith, g) in
    let behind : count_trailing_zeros 64 n ≡ j + count_trailing_zeros (64 - j) v = ap (count_trailing_zeros 64) e ∙ shifted j 64 (64 - j) v whole in
    let few : count_trailing_zeros (64 - j) v < 8 = low 8 (64 - j) v (omega (arith, g)) h in
    (omega (arith, behind), omega (arith, behind, few))

-- ---- one word

-- the word of the first 8 bytes
abbrev word : List ℕ → ℕ
word xs = from_be_bytes w64 (padded 8 xs)

some_there : (xs : List ℕ) → word xs ≢ 0 → 0 < length xs
some_there [] h = absurd (h (omega arith))
some_there (x ∷ xs) h = omega arith

none_there : (xs : List ℕ) → AllByRecursion IsFilled xs → word xs ≡ 0 → length xs ≡ 0
none_there [] f e = refl
none_there (x ∷ xs) f e = absurd (omega (arith, f.0.some, e))

abbrev IsParted : List ℕ → Type 0
IsParted xs = (v : ℕ) × (word xs ≡ v * 2 ^ ((8 - length xs) * 8)) × (0 < v % 2 ^ 8)

parted : (xs : List ℕ) → 0 < length xs → length xs ≤ 8 → AllByRecursion IsFilled xs → IsParted xs
parted [] h g f = absurd (omega (arith, h))
parted (a ∷ []) h g f = (a, omega arith, omega (arith, f.0.some, f.0.byte))
parted (a ∷ b ∷ []) h g f = (a * 256 + b, omega arith, omega (arith, f.1.0.some, f.1.0.byte))
parted (a ∷ b ∷ c ∷ []) h g f = (a * 65536 + b * 256 + c, omega arith, omega (arith, f.1.1.0.some, f.1.1.0.byte))
parted (a ∷ b ∷ c ∷ d ∷ []) h g f = (a * 16777216 + b * 65536 + c * 256 + d, omega arith, omega (arith, f.1.1.1.0.some, f.1.1.1.0.byte))
parted (a ∷ b ∷ c ∷ d ∷ p ∷ []) h g f = (
  a * 4294967296 + b * 16777216 + c * 65536 + d * 256 + p,
  omega arith,
  omega (arith, f.1.1.1.1.0.some, f.1.1.1.1.0.byte),
)
parted (a ∷ b ∷ c ∷ d ∷ p ∷ q ∷ []) h g f = (
  a * 1099511627776 + b * 4294967296 + c * 16777216 + d * 65536 + p * 256 + q,
  omega arith,
  omega (arith, f.1.1.1.1.1.0.some, f.1.1.1.1.1.0.byte),
)
parted (a ∷ b ∷ c ∷ d ∷ p ∷ q ∷ r ∷ []) h g f = (
  a * 281474976710656 + b * 1099511627776 + c * 4294967296 + d * 16777216 + p * 65536 + q * 256 + r,
  omega arith,
  omega (arith, f.1.1.1.1.1.1.0.some, f.1.1.1.1.1.1.0.byte),
)
parted (a ∷ b ∷ c ∷ d ∷ p ∷ q ∷ r ∷ s ∷ []) h g f = (
  a * 72057594037927936 + b * 281474976710656 + c * 1099511627776 + d * 4294967296 + p * 16777216 + q * 65536 + r * 256 + s,
  omega arith,
  omega (arith, f.1.1.1.1.1.1.1.0.some, f.1.1.1.1.1.1.1.0.byte),
)
parted (a ∷ b ∷ c ∷ d ∷ p ∷ q ∷ r ∷ s ∷ t ∷ xs) h g f = absurd (omega (arith, g))

zeros : (xs : List ℕ) → 0 < length xs → length xs ≤ 8 → AllByRecursion IsFilled xs → trailing_zeros w64 (word xs) / 8 ≡ 8 - length xs
zeros xs h g f =
    let parts : IsParted xs = parted xs h g f in
    let t : ((8 - length xs) * 8 ≤ trailing_zeros w64 (word xs)) × (trailing_zeros w64 (word xs) < (8 - length xs) * 8 + 8) =
    ended (word xs) parts.0 ((8 - length xs) * 8) parts.1 parts.2 (omega (arith, h)) in
    omega (arith, t.0, t.1)

-- ---- four words

drop-none : (j : ℕ) → drop {A = ℕ} j [] ≡ []
drop-none zero = refl
drop-none (suc j) = refl

take-padded : (j n : ℕ) (xs : List ℕ) → j ≤ n → take j (padded n xs) ≡ padded j xs
take-padded zero n xs h = refl
take-padded (suc j) zero xs h = absurd (omega (arith, h))
take-padded (suc j) (suc n) [] h = ap (λ bs. 0 ∷ bs) (take-padded j n [] (omega (arith, h)))
take-padded (suc j) (suc n) (x ∷ xs) h = ap (λ bs. x ∷ bs) (take-padded j n xs (omega (arith, h)))

drop-padded : (j n m : ℕ) (xs : List ℕ) → n ≡ j + m → drop j (padded n xs) ≡ padded m (drop j xs)
drop-padded zero n m xs e = let same : n ≡ m = omega (arith, e) in ap (λ k. padded k xs) same
drop-padded (suc j) zero m xs e = absurd (omega (arith, e))
drop-padded (suc j) (suc n) m [] e = drop-padded j n m [] (omega (arith, e)) ∙ ap (padded m) (drop-none j)
drop-padded (suc j) (suc n) m (x ∷ xs) e = drop-padded j n m xs (omega (arith, e))

filled-drop : (j : ℕ) (xs : List ℕ) → AllByRecursion IsFilled xs → AllByRecursion IsFilled (drop j xs)
filled-drop zero xs f = f
filled-drop (suc j) [] f = f
filled-drop (suc j) (x ∷ xs) f = filled-drop j xs f.1

one_more : (n k m : ℕ) (xs : List ℕ) → k ≡ 8 + m → words (suc n) (padded k xs) ≡ word xs ∷ words n (padded m (drop 8 xs))
one_more n k m xs e = λ i. from_be_bytes w64 (take-padded 8 k xs (omega (arith, e)) i) ∷ words n (drop-padded 8 k m xs e i)

four : (name : List ℕ) → words_of name ≡ word name ∷ word (drop 8 name) ∷ word (drop 8 (drop 8 name)) ∷ word (drop 8 (drop 8 (drop 8 name))) ∷ []
four name =
    one_more 3 32 24 name (omega arith)
    ∙ ap (λ ws. word name ∷ ws) (one_more 2 24 16 (drop 8 name) (omega arith))
    ∙ ap (λ ws. word name ∷ word (drop 8 name) ∷ ws) (one_more 1 16 8 (drop 8 (drop 8 name)) (omega arith))
    ∙ ap (λ ws. word name ∷ word (drop 8 name) ∷ word (drop 8 (drop 8 name)) ∷ ws) (one_more 0 8 0 (drop 8 (drop 8 (drop 8 name))) (omega arith))

-- ---- the length

-- the length follows from the last word that isn't 0, before which there are k bytes of the name
last-word : (name xs : List ℕ) (w k : ℕ) → w ≡ word xs → 0 < length xs → length xs ≤ 8 → AllByRecursion IsFilled xs → length name ≡ k + length xs
    → k + 8 - trailing_zeros w64 w / 8 ≡ length name
last-word name xs w k e h g f n =
    let zeros_there : trailing_zeros w64 w / 8 ≡ 8 - length xs = ap (λ v. trailing_zeros w64 v / 8) e ∙ zeros xs h g f in
    omega (arith, zeros_there, h, g, n)

pub of_four : (name ws : List ℕ) → is_name name ≡ true → ws ≡ words_of name → slice_index_or ws 3 0 ≢ 0
    → 32 - trailing_zeros w64 (slice_index_or ws 3 0) / 8 ≡ length name
of_four name ws h e some =
    let s : IsShort name = short name h in
    let w : slice_index_or ws 3 0 ≡ word (drop 8 (drop 8 (drop 8 name))) = ap (λ vs. slice_index_or vs 3 0) (e ∙ four name) in
    let there : 0 < length (drop 8 (drop 8 (drop 8 name))) = some_there (drop 8 (drop 8 (drop 8 name))) (λ z. some (w ∙ z)) in
    let size : length (drop 8 (drop 8 (drop 8 name))) ≡ length name - 24 =
    omega (arith, length-drop 8 (drop 8 (drop 8 name)), length-drop 8 (drop 8 name), length-drop 8 name) in
    last-word name (drop 8 (drop 8 (drop 8 name))) (slice_index_or ws 3 0) 24 w there (omega (arith, size, s.few))
    (filled-drop 8 (drop 8 (drop 8 name)) (filled-drop 8 (drop 8 name) (filled-drop 8 name s.filled))) (omega (arith, size, there))

pub of_three : (name ws : List ℕ) → is_name name ≡ true → ws ≡ words_of name → slice_index_or ws 3 0 ≡ 0 → slice_index_or ws 2 0 ≢ 0
    → 24 - trailing_zeros w64 (slice_index_or ws 2 0) / 8 ≡ length name
of_three name ws h e none some =
    let s : IsShort name = short name h in
    let w : slice_index_or ws 2 0 ≡ word (drop 8 (drop 8 name)) = ap (λ vs. slice_index_or vs 2 0) (e ∙ four name) in
    let v : slice_index_or ws 3 0 ≡ word (drop 8 (drop 8 (drop 8 name))) = ap (λ vs. slice_index_or vs 3 0) (e ∙ four name) in
    let filled : AllByRecursion IsFilled (drop 8 (drop 8 name)) = filled-drop 8 (drop 8 name) (filled-drop 8 name s.filled) in
    let there : 0 < length (drop 8 (drop 8 name)) = some_there (drop 8 (drop 8 name)) (λ z. some (w ∙ z)) in
    let end : length (drop 8 (drop 8 (drop 8 name))) ≡ 0 =
    none_there (drop 8 (drop 8 (drop 8 name))) (filled-drop 8 (drop 8 (drop 8 name)) filled) (sym v ∙ none) in
    let size : length (drop 8 (drop 8 name)) ≡ length name - 16 = omega (arith, length-drop 8 (drop 8 name), length-drop 8 name) in
    last-word name (drop 8 (drop 8 name)) (slice_index_or ws 2 0) 16 w there (omega (arith, end, length-drop 8 (drop 8 (drop 8 name)))) filled
    (omega (arith, size, there))

pub of_two : (name ws : List ℕ) → is_name name ≡ true → ws ≡ words_of name → slice_index_or ws 2 0 ≡ 0 → slice_index_or ws 1 0 ≢ 0
    → 16 - trailing_zeros w64 (slice_index_or ws 1 0) / 8 ≡ length name
of_two name ws h e none some =
    let s : IsShort name = short name h in
    let w : slice_index_or ws 1 0 ≡ word (drop 8 name) = ap (λ vs. slice_index_or vs 1 0) (e ∙ four name) in
    let v : slice_index_or ws 2 0 ≡ word (drop 8 (drop 8 name)) = ap (λ vs. slice_index_or vs 2 0) (e ∙ four name) in
    let filled : AllByRecursion IsFilled (drop 8 name) = filled-drop 8 name s.filled in
    let there : 0 < length (drop 8 name) = some_there (drop 8 name) (λ z. some (w ∙ z)) in
    let end : length (drop 8 (drop 8 name)) ≡ 0 = none_there (drop 8 (drop 8 name)) (filled-drop 8 (drop 8 name) filled) (sym v ∙ none) in
    last-word name (drop 8 name) (slice_index_or ws 1 0) 8 w there (omega (arith, end, length-drop 8 (drop 8 name))) filled
    (omega (arith, length-drop 8 name, there))

not_empty : (name : List ℕ) → is_name name ≡ true → 0 < length name
not_empty [] h = absurd (grind (arith, h))
not_empty (x ∷ xs) h = omega arith

pub of_one : (name ws : List ℕ) → is_name name ≡ true → ws ≡ words_of name → slice_index_or ws 1 0 ≡ 0
    → 8 - trailing_zeros w64 (slice_index_or ws 0 0) / 8 ≡ length name
of_one name ws h e none =
    let s : IsShort name = short name h in
    let w : slice_index_or ws 0 0 ≡ word name = ap (λ vs. slice_index_or vs 0 0) (e ∙ four name) in
    let v : slice_index_or ws 1 0 ≡ word (drop 8 name) = ap (λ vs. slice_index_or vs 1 0) (e ∙ four name) in
    let end : length (drop 8 name) ≡ 0 = none_there (drop 8 name) (filled-drop 8 name s.filled) (sym v ∙ none) in
    last-word name name (slice_index_or ws 0 0) 0 w (not_empty name h) (omega (arith, end, length-drop 8 name)) s.filled (omega arith)

-- ---- the name

pub text : (k : Inside) (h : IsWorded k) (bs : List ℕ) (n : ℕ) → bs ≡ spread k.words → n ≡ length h.name → take n bs ≡ name_of k
unfolding name_of
text k h bs n e size =
    let s : IsShort h.name = short h.name h.is in
    let behind : bs ≡ h.name ++ replicate (32 - length h.name) 0 =
    e ∙ ap spread h.made ∙ spread-words 4 (padded 32 h.name) (padded-length 32 h.name) (padded-bytes 32 h.name s.filled) ∙ padded-behind 32 h.name s.few in
    (λ i. take (size i) (behind i)) ∙ take-append_seam h.name (replicate (32 - length h.name) 0) ∙ sym (named k.words h.name s h.made)
