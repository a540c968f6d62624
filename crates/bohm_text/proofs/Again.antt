-- Reading the words of a value gives back the value.
use Rattle.std.proofs.Common.{◌≡◌, ℕ, zero, suc, ◌+◌, ◌-◌, ◌*◌, ◌/◌, ◌%◌, ◌^◌, ◌<◌, ◌≤◌, Bool, true, false, cond, List}
use Rattle.std.proofs.Common.{[], ◌∷◌, ◌++◌, length, get_or, Some, None, refl, ap, sym, subst, ◌∙◌, arith, inl, inr}
use Rattle.std.specs.Prelude.{ℤ, pos, negsuc, ◌⊎◌, ◌&&◌, ◌==◌, nat_le, codes}
use Rattle.std.specs.Option.{option_map}
use Rattle.std.specs.List.{flat_map, list_all, AllByRecursion}
use Rattle.std.specs.Str.Parse.{IsNumeral}
use Rattle.std.specs.Fmt.{decimal, signed_decimal}
use Rattle.std.specs.Char.{is_ascii_digit}
use Rattle.std.proofs.lemmas.List.{append-nil, length-append}
use Rattle.std.proofs.lemmas.Bool.{eqb-true}
use Rattle.std.proofs.lemmas.Bool.Decides.{nat_tests}
use Rattle.std.proofs.lemmas.Str.Parse.{digit_from_value}
use Rattle.std.proofs.lemmas.Fmt.{decimal_by_steps, decimal_is_IsNumeral, first_decimal, decimal_digit}
use Rattle.bohm_types.specs.Name.{is_name, is_name_byte, key_of}
use Rattle.bohm_types.specs.Shape.{is_term, term_of}
use Rattle.bohm_types.specs.Term.{Atom, Lit, Read, Local}
use Rattle.bohm_types.specs.declared.cmp.Cmp.TheVariants.{Lt, Le, Eq, Ge, Gt}
use Rattle.bohm_types.specs.Stmt.{Cond, Stmt, Bind, Need, Has, Lacks, Put, Remove, Show, Fail}
use Rattle.bohm_text.specs.Print.{Words, atom_word, first_word, further_words, sum_words, cmp_word, cond_words, stmt_words, store_words}
use Rattle.bohm_text.specs.Reading.{◌>>=◌, digits_of, whole_of, lit_of, number_of, atom_of, first_of, sign_of, further_of}
use Rattle.bohm_text.specs.Reading.{cmp_of, stop_of, Ending, End, When, Compared, terms_of, sum_from, last_sum, keys_of}
use Rattle.bohm_text.specs.Reading.{cond_of, bind_of, put_of, presence_of, need_of, remove_of, fail_of, stmt_of, entry_of}
use Rattle.bohm_types.specs.Sound.{IsAtom, IsTerm, IsSum, IsCond, IsStmt, IsNumber, IsEntry}
use Rattle.bohm_text.proofs.Digits.{digits_of-cons, digits_of-nil}
use Rattle.bohm_text.proofs.Takes.{ending_words}

pub key_again : (k : List ℕ) → is_name k ≡ true → key_of k ≡ Some k
key_again k named = rw named refl

digits_push : (limit m c : ℕ) (ds : List ℕ) → digits_of limit m (ds ++ c ∷ []) ≡ (digits_of limit m ds >>= λ k. digits_of limit k (c ∷ []))
unfolding digits_of
digits_push limit m c [] = refl
digits_push limit m c (d ∷ ds) =
    elim (is_ascii_digit d && nat_le (m * 10 + (d - 48)) limit) as (λ t. cond t (digits_of limit (m * 10 + (d - 48)) (ds ++ c ∷ [])) None
    ≡ (cond t (digits_of limit (m * 10 + (d - 48)) ds) None >>= λ k. digits_of limit k (c ∷ []))) [
      | true ↦ digits_push limit (m * 10 + (d - 48)) c ds
      | false ↦ refl
    ]

is_digit : (d : ℕ) → d < 10 → is_ascii_digit (48 + d) ≡ true
is_digit d small = grind (arith, nat_tests)

one_digit : (limit m d n : ℕ) → d < 10 → m * 10 + d ≡ n → n ≤ limit → digits_of limit m ((48 + d) ∷ []) ≡ Some n
one_digit limit m d n small is within =
    let value : m * 10 + (48 + d - 48) ≡ n = omega (arith, is) in
    digits_of-cons limit m (48 + d) [] (is_digit d small) (omega arith) ∙ (digits_of-nil limit (m * 10 + (48 + d - 48)) ∙ ap Some value)

Again : ℕ → ℕ → List ℕ → Type 0
Again limit n ds = n ≤ limit → digits_of limit 0 ds ≡ Some n

pub digits_again : (limit n : ℕ) → n < 2 ^ 64 → n ≤ limit → digits_of limit 0 (decimal n) ≡ Some n
unfolding Again
digits_again limit n small =
    decimal_by_steps (Again limit)
    (λ d below within. one_digit limit 0 d d below (omega arith) within)
    (λ k ds large before within.
    let rest : k % 10 < 10 = omega arith in
    digits_push limit 0 (48 + k % 10) ds ∙ rw (before (omega arith)) (one_digit limit (k / 10) (k % 10) k rest (omega arith) within))
    n small

whole_is : (limit : ℕ) (w : List ℕ) → 0 < length w → (48 < get_or w 0 0) ⊎ (w ≡ 48 ∷ []) → whole_of limit w ≡ digits_of limit 0 w
whole_is limit [] some h = absurd (omega arith)
whole_is limit (c ∷ cs) some (inl h) = let other : c == 48 ≡ false = grind (arith, nat_tests) in rw other refl
whole_is limit (c ∷ cs) some (inr h) = subst (λ (v : List ℕ). whole_of limit v ≡ digits_of limit 0 v) (sym h) refl

pub whole_again : (limit n : ℕ) → n < 2 ^ 64 → n ≤ limit → whole_of limit (decimal n) ≡ Some n
whole_again limit zero small within = whole_is limit (decimal 0) (decimal_is_IsNumeral 0 small).0.0 (inr (decimal_digit 0 (omega arith)))
    ∙ digits_again limit 0 small within
whole_again limit (suc n) small within = whole_is limit (decimal (suc n)) (decimal_is_IsNumeral (suc n) small).0.0
    (inl (first_decimal (suc n) (omega arith) small)) ∙ digits_again limit (suc n) small within

lit_atom : (w : List ℕ) (n : ℕ) → IsNumeral 10 w → lit_of w ≡ Some n → atom_of w ≡ Some (Lit n)
unfolding atom_of
lit_atom [] n numeral e = absurd (omega (arith, numeral.0))
lit_atom (c ∷ cs) n numeral e =
    let range = digit_from_value c numeral.1.0 in
    let other : c == 36 ≡ false = grind (arith, nat_tests, range.0) in
    let digit : is_ascii_digit c ≡ true = grind (arith, nat_tests, range.0, range.1) in
    rw (other, digit, e) refl

name_first : (c : ℕ) (cs : List ℕ) → is_name (c ∷ cs) ≡ true → (97 ≤ c) × (c ≤ 122)
name_first c cs named = grind (arith, nat_tests)

read_atom : (w : List ℕ) → is_name w ≡ true → atom_of w ≡ Some (Read w)
unfolding atom_of
read_atom [] named = absurd cc
read_atom (c ∷ cs) named =
    let range = name_first c cs named in
    let other : c == 36 ≡ false = grind (arith, nat_tests, range.0) in
    let digit : is_ascii_digit c ≡ false = grind (arith, nat_tests, range.0) in
    rw (other, digit) (ap (option_map Read) (key_again (c ∷ cs) named))

local_atom : (x : List ℕ) → is_name x ≡ true → atom_of (36 ∷ x) ≡ Some (Local x)
unfolding atom_of
local_atom x named = ap (option_map Local) (key_again x named)

pub atom_again : (a : Atom) → IsAtom a → atom_of (atom_word a) ≡ Some a
atom_again (Lit n) sound = lit_atom (decimal n) n (decimal_is_IsNumeral n (omega arith)).0 (whole_again (2 ^ 63 - 1) n (omega arith) (omega arith))
atom_again (Read k) sound = read_atom k sound
atom_again (Local x) sound = local_atom x sound

and_stops : (b c : Bool) → ((b && false) && c) ≡ false
and_stops true c = refl
and_stops false c = refl

not_minus : (cs : List ℕ) (a : Atom) → atom_of (45 ∷ cs) ≡ Some a → ⊥
unfolding atom_of
not_minus cs a e =
    let unnamed : is_name (45 ∷ cs) ≡ false = and_stops (nat_le (length cs) 31) (list_all is_name_byte cs) in
    let none : atom_of (45 ∷ cs) ≡ None = rw unnamed refl in
    cc

nothing : (a : Atom) → atom_of [] ≡ Some a → ⊥
unfolding atom_of
nothing a e = cc

plain_first : (w : List ℕ) (a : Atom) → atom_of w ≡ Some a → first_of w ≡ term_of false a
unfolding first_of
plain_first [] a e = absurd (nothing a e)
plain_first (c ∷ cs) a e =
    let P : Bool → Type 0 = λ (t : Bool). c == 45 ≡ t
    → cond t (atom_of cs >>= λ x. term_of true x) (atom_of (c ∷ cs) >>= λ x. term_of false x) ≡ term_of false a in
    elim (c == 45) as P [
      | true ↦ λ h. absurd (not_minus cs a (subst (λ (d : ℕ). atom_of (d ∷ cs) ≡ Some a) (eqb-true c 45 h) e))
      | false ↦ λ h. rw e refl
    ] refl

pub first_again : (m : Bool) (a : Atom) → is_term m a ≡ true → IsAtom a → first_of (first_word (m, a)) ≡ Some (m, a)
unfolding first_of
first_again true a term atom = rw (atom_again a atom, term) refl
first_again false a term atom = plain_first (atom_word a) a (atom_again a atom) ∙ rw term refl

sign_again : (m : Bool) → sign_of (cond m (codes "-") (codes "+")) ≡ Some m
unfolding sign_of
sign_again true = refl
sign_again false = refl

pub further_again : (m : Bool) (a : Atom) → is_term m a ≡ true → IsAtom a → further_of m (atom_word a) ≡ Some (m, a)
unfolding further_of
further_again m a term atom = rw (atom_again a atom, term) refl

ending_again : (end : Ending) → terms_of (ending_words end) ≡ Some ([], end)
unfolding terms_of sign_of stop_of cmp_of
ending_again End = refl
ending_again (When []) = refl
ending_again (When (w ∷ ws)) = refl
ending_again (Compared Lt []) = refl
ending_again (Compared Lt (w ∷ ws)) = refl
ending_again (Compared Le []) = refl
ending_again (Compared Le (w ∷ ws)) = refl
ending_again (Compared Eq []) = refl
ending_again (Compared Eq (w ∷ ws)) = refl
ending_again (Compared Ge []) = refl
ending_again (Compared Ge (w ∷ ws)) = refl
ending_again (Compared Gt []) = refl
ending_again (Compared Gt (w ∷ ws)) = refl

pub terms_again : (ts : List (Bool × Atom)) (end : Ending) → AllByRecursion IsTerm ts
    → terms_of (flat_map further_words ts ++ ending_words end) ≡ Some (ts, end)
unfolding terms_of
terms_again [] end sound = ending_again end
terms_again (t ∷ ts) end sound = rw (sign_again t.0, further_again t.0 t.1 sound.0.0 sound.0.1, terms_again ts end sound.1) refl

pub sum_again : (ts : List (Bool × Atom)) (end : Ending) → IsSum ts → sum_from (sum_words ts ++ ending_words end) ≡ Some (ts, end)
unfolding sum_from
sum_again [] end sound = absurd (omega (arith, sound.0))
sum_again (t ∷ ts) end sound = rw (first_again t.0 t.1 sound.1.0.0 sound.1.0.1, terms_again ts end sound.1.1) refl

pub last_again : (ts : List (Bool × Atom)) → IsSum ts → last_sum (sum_words ts) ≡ Some ts
unfolding last_sum
last_again ts sound =
    let read : sum_from (sum_words ts) ≡ Some (ts, End) = ap sum_from (sym (append-nil (sum_words ts))) ∙ sum_again ts End sound in
    rw read refl

pub cond_again : (c : Cond) → IsCond c → cond_of (cond_words c) ≡ Some c
unfolding cond_of
cond_again c sound = rw (sum_again c.left (Compared c.cmp (sum_words c.right)) sound.0, last_again c.right sound.1) refl

sum_words-some : (ts : List (Bool × Atom)) → IsSum ts → 0 < length (sum_words ts)
sum_words-some [] sound = sound.0
sum_words-some (t ∷ ts) sound = omega arith

need_long : (ws : Words) → 2 < length ws → need_of ws ≡ option_map Need (cond_of ws)
unfolding need_of
need_long [] long = absurd (omega arith)
need_long (a ∷ []) long = absurd (omega arith)
need_long (a ∷ b ∷ []) long = absurd (omega arith)
need_long (a ∷ b ∷ c ∷ ws) long = refl

need_again : (c : Cond) → IsCond c → need_of (cond_words c) ≡ Some (Need c)
need_again c sound =
    let left : 0 < length (sum_words c.left) = sum_words-some c.left sound.0 in
    let right : 0 < length (sum_words c.right) = sum_words-some c.right sound.1 in
    need_long (cond_words c) (omega (arith, length-append (sum_words c.left) (cmp_word c.cmp ∷ sum_words c.right))) ∙ ap (option_map Need) (cond_again c sound)

pub stmt_again : (s : Stmt) → IsStmt s → stmt_of (stmt_words s) ≡ Some s
unfolding stmt_of bind_of put_of need_of presence_of remove_of fail_of
stmt_again (Bind x sum) sound = rw (key_again x sound.0, last_again sum sound.1) refl
stmt_again (Need c) sound = need_again c sound
stmt_again (Has k) sound = rw (key_again k sound) refl
stmt_again (Lacks k) sound = rw (key_again k sound) refl
stmt_again (Put k sum None) sound = rw (key_again k sound.0, sum_again sum End sound.1) refl
stmt_again (Put k sum (Some c)) sound = rw (key_again k sound.0, sum_again sum (When (cond_words c)) sound.1, cond_again c sound.2) refl
stmt_again (Remove k) sound = rw (key_again k sound) refl
stmt_again (Show sum) sound = rw (last_again sum sound) refl
stmt_again Fail sound = refl

lit_number : (w : List ℕ) (n : ℕ) → IsNumeral 10 w → lit_of w ≡ Some n → number_of w ≡ Some (pos n)
unfolding number_of
lit_number [] n numeral e = absurd (omega (arith, numeral.0))
lit_number (c ∷ cs) n numeral e =
    let range = digit_from_value c numeral.1.0 in
    let other : c == 45 ≡ false = grind (arith, nat_tests, range.0) in
    rw (other, e) refl

pub number_again : (z : ℤ) → IsNumber z → number_of (signed_decimal z) ≡ Some z
unfolding number_of
number_again (pos n) small = lit_number (decimal n) n (decimal_is_IsNumeral n (omega arith)).0 (whole_again (2 ^ 63 - 1) n (omega arith) (omega arith))
number_again (negsuc n) small = rw (whole_again (2 ^ 63) (suc n) (omega arith) (omega arith)) refl

pub keys_again : (ks : List (List ℕ)) → AllByRecursion (λ k. is_name k ≡ true) ks → keys_of ks ≡ Some ks
unfolding keys_of
keys_again [] all = refl
keys_again (k ∷ ks) all = rw (key_again k all.0, keys_again ks all.1) refl

pub entry_again : (entry : List ℕ × ℤ) → IsEntry entry → entry_of (store_words entry) ≡ Some entry
unfolding entry_of
entry_again entry sound = rw (key_again entry.0 sound.0, number_again entry.1 sound.1) refl
