-- Names as words, and names read back from words.
use Rattle.std.proofs.Common.{◌≡◌, ℕ, zero, suc, ◌*◌, ◌-◌, ◌<◌, ◌≤◌, List, [], ◌∷◌, ◌++◌, length, get_or, take, drop, replicate, refl, ap, sym, ◌∙◌, arith}
use Rattle.std.specs.List.{AllByRecursion}
use Rattle.std.specs.Int.{w64, to_be_bytes, from_be_bytes}
use Rattle.std.proofs.lemmas.List.{take-append-drop, length-take, length-drop}
use Rattle.std.proofs.lemmas.Nat.{be_bytes_8}
use Rattle.bohm_types.specs.Words.{padded, before_zero, words, spread, words_of, IsFilled, IsShort}

-- ---- trailing zeros

pub padded-length : (n : ℕ) (xs : List ℕ) → length (padded n xs) ≡ n
padded-length zero xs = refl
padded-length (suc n) [] = ap suc (padded-length n [])
padded-length (suc n) (x ∷ xs) = ap suc (padded-length n xs)

pub padded-none : (n : ℕ) → padded n [] ≡ replicate n 0
padded-none zero = refl
padded-none (suc n) = ap (λ bs. 0 ∷ bs) (padded-none n)

pub padded-behind : (n : ℕ) (xs : List ℕ) → length xs ≤ n → padded n xs ≡ xs ++ replicate (n - length xs) 0
padded-behind zero [] h = refl
padded-behind zero (x ∷ xs) h = absurd (omega (arith, h))
padded-behind (suc n) [] h =
    let whole : suc n ≡ suc n - 0 = omega arith in
    padded-none (suc n) ∙ ap (λ m. replicate m 0) whole
padded-behind (suc n) (x ∷ xs) h =
    let same : suc n - length (x ∷ xs) ≡ n - length xs = omega arith in
    ap (λ bs. x ∷ bs) (padded-behind n xs (omega (arith, h))) ∙ ap (λ m. x ∷ xs ++ replicate m 0) (sym same)

pub none-before : (n : ℕ) → before_zero (padded n []) ≡ []
none-before zero = refl
none-before (suc n) = refl

pub before-padded : (n : ℕ) (xs : List ℕ) → length xs ≤ n → AllByRecursion IsFilled xs → before_zero (padded n xs) ≡ xs
before-padded n [] h f = none-before n
before-padded zero (x ∷ xs) h f = absurd (omega (arith, h))
before-padded (suc n) (zero ∷ xs) h f = absurd (omega (arith, f.0.some))
before-padded (suc n) (suc x ∷ xs) h f = ap (λ bs. suc x ∷ bs) (before-padded n xs (omega (arith, h)) f.1)

abbrev pub AreBytes : List ℕ → Type 0
AreBytes bs = (i : ℕ) → get_or bs i 0 < 256

pub bytes-more : (x : ℕ) (xs : List ℕ) → x < 256 → AreBytes xs → AreBytes (x ∷ xs)
bytes-more x xs h f zero = h
bytes-more x xs h f (suc i) = f i

pub bytes-none : AreBytes []
bytes-none i = omega arith

pub padded-bytes : (n : ℕ) (xs : List ℕ) → AllByRecursion IsFilled xs → AreBytes (padded n xs)
padded-bytes zero xs f = bytes-none
padded-bytes (suc n) [] f = bytes-more 0 (padded n []) (omega arith) (padded-bytes n [] f)
padded-bytes (suc n) (x ∷ xs) f = bytes-more x (padded n xs) f.0.byte (padded-bytes n xs f.1)

pub bytes-drop : (k : ℕ) (bs : List ℕ) → AreBytes bs → AreBytes (drop k bs)
bytes-drop zero bs f = f
bytes-drop (suc k) [] f = bytes-none
bytes-drop (suc k) (b ∷ bs) f = bytes-drop k bs (λ i. f (suc i))

pub bytes-take : (k : ℕ) (bs : List ℕ) → AreBytes bs → AreBytes (take k bs)
bytes-take zero bs f = bytes-none
bytes-take (suc k) [] f = bytes-none
bytes-take (suc k) (b ∷ bs) f = bytes-more b (take k bs) (f 0) (bytes-take k bs (λ i. f (suc i)))

-- ---- words read back

pub spread-words : (n : ℕ) (bs : List ℕ) → length bs ≡ n * 8 → AreBytes bs → spread (words n bs) ≡ bs
spread-words zero [] e f = refl
spread-words zero (b ∷ bs) e f = absurd (omega (arith, e))
spread-words (suc n) bs e f =
    let front : length (take 8 bs) ≡ 8 = omega (arith, e, length-take 8 bs) in
    let rest : length (drop 8 bs) ≡ n * 8 = omega (arith, e, length-drop 8 bs) in
    let word : to_be_bytes w64 (from_be_bytes w64 (take 8 bs)) ≡ take 8 bs =
    be_bytes_8 (take 8 bs) (from_be_bytes w64 (take 8 bs)) front (bytes-take 8 bs f) refl in
    ap (λ ws. ws ++ spread (words n (drop 8 bs))) word
    ∙ ap (λ ws. take 8 bs ++ ws) (spread-words n (drop 8 bs) rest (bytes-drop 8 bs f))
    ∙ take-append-drop 8 bs

pub name_back : (name : List ℕ) → IsShort name → before_zero (spread (words_of name)) ≡ name
name_back name h = ap before_zero (spread-words 4 (padded 32 name) (padded-length 32 name) (padded-bytes 32 name h.filled))
    ∙ before-padded 32 name h.few h.filled

pub named : (ws name : List ℕ) → IsShort name → ws ≡ words_of name → before_zero (spread ws) ≡ name
named ws name h e = ap (λ xs. before_zero (spread xs)) e ∙ name_back name h

pub read_back : (ws name : List ℕ) → IsShort name → ws ≡ words_of name → words_of (before_zero (spread ws)) ≡ ws
read_back ws name h e = ap words_of (named ws name h e) ∙ sym e
