-- The rows of a store's entries, and the entries that rows are read as.
use Rattle.std.proofs.Common.{◌≡◌, ℕ, zero, suc, ◌-◌, ◌<◌, ◌≤◌, ◌∙◌, Bool, true, false, List, [], ◌∷◌, ◌++◌, length, map, get_or, take, drop, replicate, refl, ap, sym, arith}
use Rattle.std.specs.Prelude.{ℤ, ◌&&◌, if◌then◌else◌, nat_le}
use Rattle.std.specs.List.{AllByRecursion, list_all}
use Rattle.std.specs.Char.{is_ascii_lowercase}
use Rattle.std.proofs.lemmas.Bool.{and_parts}
use Rattle.std.proofs.lemmas.Bool.Decides.{nat_tests}
use Rattle.bohm_types.specs.Keys.{names_of}
use Rattle.bohm_types.specs.Name.{is_name, is_name_byte}
use Rattle.bohm_types.specs.Sound.{IsName}
use Rattle.bohm_types.specs.Spreading.{padded-behind}
use Rattle.bohm_types.specs.Words.{before_zero, padded}
use Rattle.bohm_c.specs.Entries.{entry_of, entry_row}

-- no byte of a name is zero
kept : (n : ℕ) (bytes : List ℕ) → length bytes ≤ n → list_all is_name_byte bytes ≡ true → before_zero (padded n bytes) ≡ bytes
kept zero [] short named = refl
kept (suc n) [] short named = refl
kept zero (b ∷ bytes) short named = absurd (omega arith)
kept (suc n) (zero ∷ bytes) short named = absurd cc
kept (suc n) (suc b ∷ bytes) short named =
    let (byte, others) = and_parts (is_name_byte (suc b)) (list_all is_name_byte bytes) named in
    ap (λ (xs : List ℕ). suc b ∷ xs) (kept n bytes (omega arith) others)

-- a name is read from its row
pub kept_name : (name : List ℕ) → is_name name ≡ true → before_zero (padded 32 name) ≡ name
kept_name [] named = absurd cc
kept_name (zero ∷ cs) named =
    let (front, bytes) = and_parts (nat_le (length cs) 31 && is_ascii_lowercase 0) (list_all is_name_byte cs) named in
    let (short, lower) = and_parts (nat_le (length cs) 31) (is_ascii_lowercase 0) front in
    absurd cc
kept_name (suc c ∷ cs) named =
    let (front, bytes) = and_parts (nat_le (length cs) 31 && is_ascii_lowercase (suc c)) (list_all is_name_byte cs) named in
    let (short, lower) = and_parts (nat_le (length cs) 31) (is_ascii_lowercase (suc c)) front in
    let few : length cs ≤ 31 = grind (arith, nat_tests) in
    ap (λ (xs : List ℕ). suc c ∷ xs) (kept 31 cs few bytes)

-- the entries are read from their rows
pub read_again : (store : List (List ℕ × ℤ)) → AllByRecursion IsName (names_of store) → map entry_of (map entry_row store) ≡ store
read_again [] named = refl
read_again (e ∷ es) named = λ i. (kept_name e.0 named.0 i, e.1) ∷ read_again es named.1 i

-- ---- the entries of rows, one after another

one_named : (es : List (List ℕ × ℤ)) (e : List ℕ × ℤ) → AllByRecursion IsName (names_of es) → IsName e.0
    → AllByRecursion IsName (names_of (es ++ e ∷ []))
one_named [] e all named = (named, tt)
one_named (x ∷ xs) e all named = (all.0, one_named xs e all.1 named)

pub pushed_named : (b : Bool) (es : List (List ℕ × ℤ)) (e : List ℕ × ℤ) → AllByRecursion IsName (names_of es) → IsName e.0
    → AllByRecursion IsName (names_of (if b then (es ++ e ∷ []) else es))
pushed_named true es e all named = one_named es e all named
pushed_named false es e all named = all

-- ---- the bytes before the first zero, found one after another

pub one_more : (xs : List ℕ) (i : ℕ) → i < length xs → ¬ (get_or xs i 0 ≡ 0)
    → take i xs ++ before_zero (drop i xs) ≡ take (suc i) xs ++ before_zero (drop (suc i) xs)
one_more [] i low some = absurd (omega (arith, low))
one_more (zero ∷ xs) zero low some = absurd (some refl)
one_more (suc x ∷ xs) zero low some = refl
one_more (x ∷ xs) (suc i) low some = ap (λ (ys : List ℕ). x ∷ ys) (one_more xs i (omega (arith, low)) some)

pub no_more : (xs : List ℕ) (i : ℕ) → get_or xs i 0 ≡ 0 → before_zero (drop i xs) ≡ []
no_more [] zero none = refl
no_more [] (suc i) none = refl
no_more (zero ∷ xs) zero none = refl
no_more (suc x ∷ xs) zero none = absurd cc
no_more (x ∷ xs) (suc i) none = no_more xs i none

-- ---- a name in front of zeros

drop-replicate : (k n : ℕ) (x : ℕ) → drop k (replicate n x) ≡ replicate (n - k) x
drop-replicate zero n x = let e : n ≡ n - 0 = omega arith in ap (λ (m : ℕ). replicate m x) e
drop-replicate (suc k) zero x = let e : 0 ≡ 0 - suc k = omega arith in ap (λ (m : ℕ). replicate m x) e
drop-replicate (suc k) (suc n) x =
    let e : n - k ≡ suc n - suc k = omega arith in
    drop-replicate k n x ∙ ap (λ (m : ℕ). replicate m x) e

pub filled_up : (name : List ℕ) (n : ℕ) → length name ≤ n → name ++ drop (length name) (replicate n 0) ≡ padded n name
filled_up name n short = ap (λ (zs : List ℕ). name ++ zs) (drop-replicate (length name) n 0) ∙ sym (padded-behind n name short)
