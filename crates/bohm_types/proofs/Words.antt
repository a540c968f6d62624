-- The order of names as words.
use Rattle.std.proofs.Common.{◌≡◌, ℕ, zero, suc, ◌+◌, ◌-◌, ◌*◌, ◌^◌, ◌<◌, ◌≤◌, List, [], ◌∷◌, ◌++◌, length, take, drop, refl, ap, sym, ◌∙◌, subst, arith}
use Rattle.std.specs.List.{AllByRecursion}
use Rattle.std.specs.Int.{w64, from_be_bytes, to_be_bytes}
use Rattle.std.specs.Ordering.{nat_cmp, ordering_then, is_eq, MatchOrdering}
use Rattle.std.specs.declared.cmp.Ordering.{Ordering}
use Rattle.std.specs.declared.cmp.Ordering.TheVariants.{Less, Equal, Greater}
use Rattle.std.specs.Cmp.{nat_cmp_is, ranks}
use Rattle.std.specs.Cmp.Lexicographic.{slice_cmp}
use Rattle.std.specs.Str.{bytes_eq}
use Rattle.std.proofs.lemmas.List.{take-append-drop, length-take, length-drop, drop_all}
use Rattle.std.proofs.lemmas.Nat.{mul-add-lt, be_bytes_8}
use Rattle.std.proofs.lemmas.Map.Text.{is_eq-slice_cmp}
use Rattle.std.proofs.lemmas.Slice.Eq.{bytes_eq-Decides}
use Rattle.std.proofs.lemmas.Bool.Decides.{same_from_decides}
use Rattle.std.proofs.Math.Seq.{take-append_seam}
use Rattle.std.specs.Cmp.{unsigned_Decides}
use Rattle.std.specs.Prelude.{nat_eq, Bool, false}
use Rattle.std.proofs.Math.Nat.{mul_comm, pow-succ'}
use Rattle.std.proofs.Common.{true, Some, replicate, get_or, slice_index_or}
use Rattle.bohm_types.specs.Name.{is_name, key_of}
use Rattle.bohm_types.specs.KeyInside.{IsWorded, name_of}
use Rattle.bohm_types.specs.Shortness.{short}
use Rattle.bohm_types.specs.declared.key.Key.TheInside.{Inside}
use Rattle.bohm_types.specs.Words.{padded, words, spread, words_of, IsFilled, IsShort}
use Rattle.bohm_types.specs.Spreading.{AreBytes, padded-length, padded-bytes, padded-behind, bytes-none}
use Rattle.bohm_types.specs.Spreading.{bytes-more, bytes-drop, bytes-take, spread-words, named}

-- ---- order

then_assoc : (a b c : Ordering) → ordering_then (ordering_then a b) c ≡ ordering_then a (ordering_then b c)
then_assoc Less b c = refl
then_assoc Equal b c = refl
then_assoc Greater b c = refl

cmp-append : (a b x y : List ℕ) → length a ≡ length b → slice_cmp nat_cmp (a ++ x) (b ++ y) ≡ ordering_then (slice_cmp nat_cmp a b) (slice_cmp nat_cmp x y)
cmp-append [] [] x y e = refl
cmp-append [] (v ∷ b) x y e = absurd (omega (arith, e))
cmp-append (u ∷ a) [] x y e = absurd (omega (arith, e))
cmp-append (u ∷ a) (v ∷ b) x y e =
    ap (ordering_then (nat_cmp u v)) (cmp-append a b x y (omega (arith, e))) ∙ sym (then_assoc (nat_cmp u v) (slice_cmp nat_cmp a b) (slice_cmp nat_cmp x y))

cmp-padded : (n : ℕ) (xs ys : List ℕ) → length xs ≤ n → length ys ≤ n → AllByRecursion IsFilled xs → AllByRecursion IsFilled ys
    → slice_cmp nat_cmp (padded n xs) (padded n ys) ≡ slice_cmp nat_cmp xs ys
cmp-padded zero [] [] h g f k = refl
cmp-padded zero [] (y ∷ ys) h g f k = absurd (omega (arith, g))
cmp-padded zero (x ∷ xs) ys h g f k = absurd (omega (arith, h))
cmp-padded (suc n) [] [] h g f k = cmp-padded n [] [] (omega arith) (omega arith) f k
cmp-padded (suc n) [] (zero ∷ ys) h g f k = absurd (omega (arith, k.0.some))
cmp-padded (suc n) [] (suc y ∷ ys) h g f k = ap (λ o. ordering_then o (slice_cmp nat_cmp (padded n []) (padded n ys)))
    (sym (nat_cmp_is 0 (suc y) Less (omega arith)))
cmp-padded (suc n) (zero ∷ xs) [] h g f k = absurd (omega (arith, f.0.some))
cmp-padded (suc n) (suc x ∷ xs) [] h g f k = ap (λ o. ordering_then o (slice_cmp nat_cmp (padded n xs) (padded n [])))
    (sym (nat_cmp_is (suc x) 0 Greater (omega arith)))
cmp-padded (suc n) (x ∷ xs) (y ∷ ys) h g f k = ap (ordering_then (nat_cmp x y)) (cmp-padded n xs ys (omega (arith, h)) (omega (arith, g)) f.1 k.1)

-- the number with these bytes as digits, the first one the most significant
abbrev worth : List ℕ → ℕ
worth [] = 0
worth (b ∷ bs) = b * 256 ^ length bs + worth bs

worth-below : (bs : List ℕ) → AreBytes bs → worth bs < 256 ^ length bs
worth-below [] f = omega arith
worth-below (b ∷ bs) f = subst (λ n. b * 256 ^ length bs + worth bs < n) (sym (pow-succ' 256 (length bs)))
    (digit-below b (worth bs) (256 ^ length bs) (f 0) (worth-below bs (λ i. f (suc i))))
  where
    digit-below : (b u w : ℕ) → b < 256 → u < w → b * w + u < 256 * w
    digit-below b u w h g = subst (λ n. b * w + u < n) (mul_comm w 256) (mul-add-lt b w u 256 h g)

worth-word : (bs : List ℕ) → length bs ≡ 8 → from_be_bytes w64 bs ≡ worth bs
worth-word [] e = absurd (omega (arith, e))
worth-word (a ∷ []) e = absurd (omega (arith, e))
worth-word (a ∷ b ∷ []) e = absurd (omega (arith, e))
worth-word (a ∷ b ∷ c ∷ []) e = absurd (omega (arith, e))
worth-word (a ∷ b ∷ c ∷ d ∷ []) e = absurd (omega (arith, e))
worth-word (a ∷ b ∷ c ∷ d ∷ x ∷ []) e = absurd (omega (arith, e))
worth-word (a ∷ b ∷ c ∷ d ∷ x ∷ y ∷ []) e = absurd (omega (arith, e))
worth-word (a ∷ b ∷ c ∷ d ∷ x ∷ y ∷ z ∷ []) e = absurd (omega (arith, e))
worth-word (a ∷ b ∷ c ∷ d ∷ x ∷ y ∷ z ∷ t ∷ []) e = omega arith
worth-word (a ∷ b ∷ c ∷ d ∷ x ∷ y ∷ z ∷ t ∷ s ∷ rest) e = absurd (omega (arith, e))

lower : (x y u v w : ℕ) → x < y → u < w → x * w + u < y * w + v
lower x y u v w h g = omega (arith, mul-add-lt x w u y h g, mul_comm w y)

-- comparing two digits each: a low digit is below the base
digits : (x y u v w : ℕ) → u < w → v < w → nat_cmp (x * w + u) (y * w + v) ≡ ordering_then (nat_cmp x y) (nat_cmp u v)
digits x y u v w a b = sym (nat_cmp_is (x * w + u) (y * w + v) (ordering_then (nat_cmp x y) (nat_cmp u v))
    (by-digits (nat_cmp x y) (nat_cmp u v) (ranks x y) (ranks u v)))
  where
    by-digits : (o r : Ordering) → MatchOrdering o (x < y) (x ≡ y) (y < x) → MatchOrdering r (u < v) (u ≡ v) (v < u)
        → MatchOrdering (ordering_then o r) (x * w + u < y * w + v) (x * w + u ≡ y * w + v) (y * w + v < x * w + u)
    by-digits Less r h k = lower x y u v w h a
    by-digits Equal Less h k = omega (arith, ap (λ n. n * w) h, k)
    by-digits Equal Equal h k = omega (arith, ap (λ n. n * w) h, k)
    by-digits Equal Greater h k = omega (arith, ap (λ n. n * w) h, k)
    by-digits Greater r h k = lower y x v u w h b

worth-cmp : (xs ys : List ℕ) → length xs ≡ length ys → AreBytes xs → AreBytes ys → nat_cmp (worth xs) (worth ys) ≡ slice_cmp nat_cmp xs ys
worth-cmp [] [] e f g = refl
worth-cmp [] (y ∷ ys) e f g = absurd (omega (arith, e))
worth-cmp (x ∷ xs) [] e f g = absurd (omega (arith, e))
worth-cmp (x ∷ xs) (y ∷ ys) e f g =
    let same : length xs ≡ length ys = omega (arith, e) in
    let low : worth xs < 256 ^ length ys = subst (λ n. worth xs < 256 ^ n) same (worth-below xs (λ i. f (suc i))) in
    ap (λ n. nat_cmp (x * 256 ^ n + worth xs) (y * 256 ^ length ys + worth ys)) same
    ∙ digits x y (worth xs) (worth ys) (256 ^ length ys) low (worth-below ys (λ i. g (suc i)))
    ∙ ap (ordering_then (nat_cmp x y)) (worth-cmp xs ys same (λ i. f (suc i)) (λ i. g (suc i)))

word-cmp : (xs ys : List ℕ) → length xs ≡ 8 → length ys ≡ 8 → AreBytes xs → AreBytes ys
    → nat_cmp (from_be_bytes w64 xs) (from_be_bytes w64 ys) ≡ slice_cmp nat_cmp xs ys
word-cmp xs ys h k f g =
    ap (λ n. nat_cmp n (from_be_bytes w64 ys)) (worth-word xs h) ∙ ap (nat_cmp (worth xs)) (worth-word ys k) ∙ worth-cmp xs ys (h ∙ sym k) f g

words-cmp : (n : ℕ) (xs ys : List ℕ) → length xs ≡ n * 8 → length ys ≡ n * 8 → AreBytes xs → AreBytes ys
    → slice_cmp nat_cmp (words n xs) (words n ys) ≡ slice_cmp nat_cmp xs ys
words-cmp zero [] [] h k f g = refl
words-cmp zero [] (y ∷ ys) h k f g = absurd (omega (arith, k))
words-cmp zero (x ∷ xs) ys h k f g = absurd (omega (arith, h))
words-cmp (suc n) xs ys h k f g =
    let a : length (take 8 xs) ≡ 8 = omega (arith, h, length-take 8 xs) in
    let b : length (take 8 ys) ≡ 8 = omega (arith, k, length-take 8 ys) in
    let c : length (drop 8 xs) ≡ n * 8 = omega (arith, h, length-drop 8 xs) in
    let d : length (drop 8 ys) ≡ n * 8 = omega (arith, k, length-drop 8 ys) in
    ap (λ o. ordering_then o (slice_cmp nat_cmp (words n (drop 8 xs)) (words n (drop 8 ys))))
    (word-cmp (take 8 xs) (take 8 ys) a b (bytes-take 8 xs f) (bytes-take 8 ys g))
    ∙ ap (ordering_then (slice_cmp nat_cmp (take 8 xs) (take 8 ys))) (words-cmp n (drop 8 xs) (drop 8 ys) c d (bytes-drop 8 xs f) (bytes-drop 8 ys g))
    ∙ sym (cmp-append (take 8 xs) (take 8 ys) (drop 8 xs) (drop 8 ys) (a ∙ sym b))
    ∙ ap (λ zs. slice_cmp nat_cmp zs (take 8 ys ++ drop 8 ys)) (take-append-drop 8 xs)
    ∙ ap (slice_cmp nat_cmp xs) (take-append-drop 8 ys)

-- words are ordered as the names that they hold
pub ordered : (xs ys : List ℕ) → IsShort xs → IsShort ys → slice_cmp nat_cmp (words_of xs) (words_of ys) ≡ slice_cmp nat_cmp xs ys
ordered xs ys h k =
    words-cmp 4 (padded 32 xs) (padded 32 ys) (padded-length 32 xs) (padded-length 32 ys) (padded-bytes 32 xs h.filled) (padded-bytes 32 ys k.filled)
    ∙ cmp-padded 32 xs ys h.few k.few h.filled k.filled

pub equal : (xs ys : List ℕ) → IsShort xs → IsShort ys → bytes_eq (words_of xs) (words_of ys) ≡ bytes_eq xs ys
equal xs ys h k = sym (is_eq-slice_cmp (words_of xs) (words_of ys)) ∙ ap is_eq (ordered xs ys h k) ∙ is_eq-slice_cmp xs ys

-- ---- the bytes of a name

pub is_a_name : (k : Inside) → IsWorded k → is_name (name_of k) ≡ true
unfolding name_of
is_a_name k h = subst (λ x. is_name x ≡ true) (sym (named k.words h.name (short h.name h.is) h.made)) h.is

-- ---- names in memory

named_by_it : (k : Inside) (h : IsWorded k) → h.name ≡ name_of k
unfolding name_of
named_by_it k h = sym (named k.words h.name (short h.name h.is) h.made)

pub same_words : (k l : Inside) → IsWorded k → IsWorded l → bytes_eq k.words l.words ≡ bytes_eq (name_of k) (name_of l)
same_words k l h g =
    (λ i. bytes_eq (h.made i) (g.made i))
    ∙ equal h.name g.name (short h.name h.is) (short g.name g.is)
    ∙ (λ i. bytes_eq (named_by_it k h i) (named_by_it l g i))

pub same_order : (k l : Inside) → IsWorded k → IsWorded l → slice_cmp nat_cmp k.words l.words ≡ slice_cmp nat_cmp (name_of k) (name_of l)
same_order k l h g =
    (λ i. slice_cmp nat_cmp (h.made i) (g.made i))
    ∙ ordered h.name g.name (short h.name h.is) (short g.name g.is)
    ∙ (λ i. slice_cmp nat_cmp (named_by_it k h i) (named_by_it l g i))

-- ---- a new name

take-padded : (n : ℕ) (xs : List ℕ) → take 8 (padded (suc (suc (suc (suc (suc (suc (suc (suc n)))))))) xs) ≡ padded 8 xs
take-padded n [] = refl
take-padded n (a ∷ []) = refl
take-padded n (a ∷ b ∷ []) = refl
take-padded n (a ∷ b ∷ c ∷ []) = refl
take-padded n (a ∷ b ∷ c ∷ d ∷ []) = refl
take-padded n (a ∷ b ∷ c ∷ d ∷ e ∷ []) = refl
take-padded n (a ∷ b ∷ c ∷ d ∷ e ∷ f ∷ []) = refl
take-padded n (a ∷ b ∷ c ∷ d ∷ e ∷ f ∷ g ∷ []) = refl
take-padded n (a ∷ b ∷ c ∷ d ∷ e ∷ f ∷ g ∷ h ∷ xs) = refl

drop-padded : (n : ℕ) (xs : List ℕ) → drop 8 (padded (suc (suc (suc (suc (suc (suc (suc (suc n)))))))) xs) ≡ padded n (drop 8 xs)
drop-padded n [] = refl
drop-padded n (a ∷ []) = refl
drop-padded n (a ∷ b ∷ []) = refl
drop-padded n (a ∷ b ∷ c ∷ []) = refl
drop-padded n (a ∷ b ∷ c ∷ d ∷ []) = refl
drop-padded n (a ∷ b ∷ c ∷ d ∷ e ∷ []) = refl
drop-padded n (a ∷ b ∷ c ∷ d ∷ e ∷ f ∷ []) = refl
drop-padded n (a ∷ b ∷ c ∷ d ∷ e ∷ f ∷ g ∷ []) = refl
drop-padded n (a ∷ b ∷ c ∷ d ∷ e ∷ f ∷ g ∷ h ∷ xs) = refl

abbrev word_in : List ℕ → ℕ
word_in xs = from_be_bytes w64 (padded 8 xs)

first_of_words : (m n : ℕ) (xs : List ℕ) → words (suc m) (padded (suc (suc (suc (suc (suc (suc (suc (suc n)))))))) xs) ≡ word_in xs ∷ words m
    (padded n (drop 8 xs))
first_of_words m n xs = λ i. from_be_bytes w64 (take-padded n xs i) ∷ words m (drop-padded n xs i)

pub four_words : (name u v w : List ℕ) (a b c d : ℕ) → u ≡ drop 8 name → v ≡ drop 8 u → w ≡ drop 8 v → a ≡ from_be_bytes w64 (padded 8 name)
    → b ≡ from_be_bytes w64 (padded 8 u) → c ≡ from_be_bytes w64 (padded 8 v) → d ≡ from_be_bytes w64 (padded 8 w) → a ∷ b ∷ c ∷ d ∷ [] ≡ words_of name
four_words name u v w a b c d p q r e f g h =
    let fourth : word_in w ∷ [] ≡ words 1 (padded 8 w) = sym (first_of_words 0 0 w) in
    let third : word_in v ∷ words 1 (padded 8 w) ≡ words 2 (padded 16 v) = ap (λ x. word_in v ∷ words 1 (padded 8 x)) r ∙ sym (first_of_words 1 8 v) in
    let second : word_in u ∷ words 2 (padded 16 v) ≡ words 3 (padded 24 u) = ap (λ x. word_in u ∷ words 2 (padded 16 x)) q ∙ sym (first_of_words 2 16 u) in
    let first : word_in name ∷ words 3 (padded 24 u) ≡ words 4 (padded 32 name) =
    ap (λ x. word_in name ∷ words 3 (padded 24 x)) p ∙ sym (first_of_words 3 24 name) in
    (λ i. e i ∷ f i ∷ g i ∷ h i ∷ [])
    ∙ ap (λ ws. word_in name ∷ word_in u ∷ word_in v ∷ ws) fourth
    ∙ ap (λ ws. word_in name ∷ word_in u ∷ ws) third
    ∙ ap (λ ws. word_in name ∷ ws) second
    ∙ first

pub one_word : (name : List ℕ) (a : ℕ) → length name ≤ 8 → a ≡ from_be_bytes w64 (padded 8 name) → a ∷ 0 ∷ 0 ∷ 0 ∷ [] ≡ words_of name
one_word name a h e =
    let none : [] ≡ drop 8 name = sym (drop_all 8 name h) in
    four_words name [] [] [] a 0 0 0 none refl refl e refl refl refl

pub two_words : (name second : List ℕ) (a b : ℕ) → second ≡ drop 8 name → length second ≤ 8 → a ≡ from_be_bytes w64 (padded 8 name)
    → b ≡ from_be_bytes w64 (padded 8 second) → a ∷ b ∷ 0 ∷ 0 ∷ [] ≡ words_of name
two_words name second a b behind few first next =
    let none : [] ≡ drop 8 second = sym (drop_all 8 second few) in
    four_words name second [] [] a b 0 0 behind none refl first next refl refl

pub new_name : (name ws : List ℕ) → true ≡ is_name name → ws ≡ words_of name → Some (name_of (record { words = ws })) ≡ key_of name
unfolding name_of
new_name name ws e made = rw (sym e) (ap Some (named ws name (short name (sym e)) made))

-- ---- comparing a name without making a key of it

front : (n : ℕ) (xs : List ℕ) → length xs ≤ n → take (length xs) (padded n xs) ≡ xs
front n xs h = ap (take (length xs)) (padded-behind n xs h) ∙ take-append_seam xs (replicate (n - length xs) 0)

same_front : (n : ℕ) (xs ys : List ℕ) → length xs ≤ n → length xs ≡ length ys → padded n xs ≡ padded n ys → xs ≡ ys
same_front n xs ys h e p = sym (front n xs h) ∙ (λ i. take (e i) (p i)) ∙ front n ys (omega (arith, h, e))

pub padded_any : (n : ℕ) (bs : List ℕ) → AreBytes bs → AreBytes (padded n bs)
padded_any zero bs f = bytes-none
padded_any (suc n) [] f = bytes-more 0 (padded n []) (omega arith) (padded_any n [] f)
padded_any (suc n) (x ∷ xs) f = bytes-more x (padded n xs) (f 0) (padded_any n xs (λ i. f (suc i)))

pub named_by : (k : Inside) (h : IsWorded k) (name : List ℕ) → AreBytes name → length h.name ≡ length name
    → bytes_eq k.words (words_of name) ≡ bytes_eq (name_of k) name
named_by k h name f e = same_from_decides (bytes_eq k.words (words_of name)) (bytes_eq (name_of k) name) (there, back) (bytes_eq-Decides (name_of k) name)
  where
    there : bytes_eq k.words (words_of name) ≡ true → name_of k ≡ name
    there t =
        let s = short h.name h.is in
        let w : words_of h.name ≡ words_of name = sym h.made ∙ (bytes_eq-Decides k.words (words_of name)).0 t in
        let p : padded 32 h.name ≡ padded 32 name = sym (spread-words 4 (padded 32 h.name) (padded-length 32 h.name) (padded-bytes 32 h.name s.filled))
        ∙ ap spread w ∙ spread-words 4 (padded 32 name) (padded-length 32 name) (padded_any 32 name f) in
        sym (named_by_it k h) ∙ same_front 32 h.name name s.few e p

    back : name_of k ≡ name → bytes_eq k.words (words_of name) ≡ true
    back q = (bytes_eq-Decides k.words (words_of name)).1 (h.made ∙ ap words_of (named_by_it k h ∙ q))

-- if the words are equal, the names are equal exactly if their lengths are
pub same_size : (k : Inside) (h : IsWorded k) (name : List ℕ) (n : ℕ) → AreBytes name → n ≡ length h.name → bytes_eq k.words (words_of name) ≡ true
    → nat_eq (length name) n ≡ bytes_eq (name_of k) name
same_size k h name n f e t = same_from_decides (nat_eq (length name) n) (bytes_eq (name_of k) name) (there, back) (bytes_eq-Decides (name_of k) name)
  where
    there : nat_eq (length name) n ≡ true → name_of k ≡ name
    there s = (bytes_eq-Decides (name_of k) name).0 (sym (named_by k h name f (sym e ∙ sym ((unsigned_Decides (length name) n).0 s))) ∙ t)

    back : name_of k ≡ name → nat_eq (length name) n ≡ true
    back q = (unsigned_Decides (length name) n).1 (sym (ap length q) ∙ ap length (sym (named_by_it k h)) ∙ sym e)

pub other_words : (k : Inside) (h : IsWorded k) (name : List ℕ) (same : Bool) → same ≡ bytes_eq k.words (words_of name) → same ≡ false
    → same ≡ bytes_eq (name_of k) name
other_words k h name same e apart = same_from_decides same (bytes_eq (name_of k) name) (there, back) (bytes_eq-Decides (name_of k) name)
  where
    there : same ≡ true → name_of k ≡ name
    there t = absurd cc

    back : name_of k ≡ name → same ≡ true
    back q = e ∙ (bytes_eq-Decides k.words (words_of name)).1 (h.made ∙ ap words_of (named_by_it k h ∙ q))

-- ---- names of at most 7 bytes

word-injective : (xs ys : List ℕ) → length xs ≡ 8 → length ys ≡ 8 → AreBytes xs → AreBytes ys → from_be_bytes w64 xs ≡ from_be_bytes w64 ys → xs ≡ ys
word-injective xs ys h k f g e =
    sym (be_bytes_8 xs (from_be_bytes w64 xs) h f refl) ∙ ap (to_be_bytes w64) e ∙ be_bytes_8 ys (from_be_bytes w64 ys) k g refl

-- names have no zeros, so a name that is padded as a short name is short
as_short : (n : ℕ) (xs ys : List ℕ) → AllByRecursion IsFilled xs → length ys ≤ n → padded (suc n) xs ≡ padded (suc n) ys → length xs ≤ n
as_short n [] ys f h e = omega arith
as_short n (x ∷ xs) [] f h e = absurd (omega (arith, f.0.some, ap (λ bs. get_or bs 0 0) e))
as_short zero (x ∷ xs) (y ∷ ys) f h e = absurd (omega (arith, h))
as_short (suc n) (x ∷ xs) (y ∷ ys) f h e = omega (arith, as_short n xs ys f.1 (omega (arith, h)) (ap (drop 1) e))

-- a key's first word is that of a short name exactly if all of its words are
pub short_words : (k : Inside) (h : IsWorded k) (name : List ℕ) → AreBytes name → length name ≤ 7
    → nat_eq (slice_index_or k.words 0 0) (from_be_bytes w64 (padded 8 name)) ≡ bytes_eq k.words (words_of name)
short_words k h name f few = same_from_decides
    (nat_eq (slice_index_or k.words 0 0) (word_in name)) (bytes_eq k.words (words_of name)) (there, back) (bytes_eq-Decides k.words (words_of name))
  where
    first : slice_index_or k.words 0 0 ≡ word_in h.name
    first = ap (λ ws. slice_index_or ws 0 0) (h.made ∙ first_of_words 3 24 h.name)

    its : word_in name ≡ slice_index_or (words_of name) 0 0
    its = sym (ap (λ ws. slice_index_or ws 0 0) (first_of_words 3 24 name))

    there : nat_eq (slice_index_or k.words 0 0) (word_in name) ≡ true → k.words ≡ words_of name
    there t =
        let s = short h.name h.is in
        let e : word_in h.name ≡ word_in name = sym first ∙ (unsigned_Decides (slice_index_or k.words 0 0) (word_in name)).0 t in
        let p : padded 8 h.name ≡ padded 8 name = word-injective (padded 8 h.name) (padded 8 name) (padded-length 8 h.name) (padded-length 8 name)
        (padded-bytes 8 h.name s.filled) (padded_any 8 name f) e in
        let few_too : length h.name ≤ 7 = as_short 7 h.name name s.filled few p in
        h.made ∙ sym (one_word h.name (word_in h.name) (omega (arith, few_too)) refl) ∙ ap (λ w. w ∷ 0 ∷ 0 ∷ 0 ∷ []) e
        ∙ one_word name (word_in name) (omega (arith, few)) refl

    back : k.words ≡ words_of name → nat_eq (slice_index_or k.words 0 0) (word_in name) ≡ true
    back q = (unsigned_Decides (slice_index_or k.words 0 0) (word_in name)).1 (ap (λ ws. slice_index_or ws 0 0) q ∙ sym its)
