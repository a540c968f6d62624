-- A word that was read as a value is that value's own word.
use Rattle.std.proofs.Common.{◌≡◌, ℕ, ◌+◌, ◌-◌, ◌*◌, ◌^◌, ◌<◌, ◌≤◌, Bool, true, false, cond, List}
use Rattle.std.proofs.Common.{[], ◌∷◌, length, Some, None, refl, sym, subst, lit<, arith, inl, inr}
use Rattle.std.specs.Prelude.{Option, ◌⊎◌, ◌&&◌, ◌==◌, nat_le, nat_lt, codes}
use Rattle.std.specs.Option.{option_map}
use Rattle.std.specs.Str.{bytes_eq}
use Rattle.std.specs.Str.Parse.{AllDigits, digits_value_after, digits_value}
use Rattle.std.specs.Fmt.{decimal}
use Rattle.std.specs.Char.{is_ascii_digit, digit_value}
use Rattle.std.proofs.lemmas.Bool.{and_parts, eqb-true, leb-true}
use Rattle.std.proofs.lemmas.Bool.Decides.{nat_tests}
use Rattle.std.proofs.lemmas.Option.{same_Some}
use Rattle.std.proofs.lemmas.Fmt.{decimal-digits_value}
use Rattle.std.proofs.lemmas.Str.Parse.{numerals_by_value, tells_digits}
use Rattle.bohm_types.specs.Name.{is_name, key_of}
use Rattle.bohm_types.specs.Shape.{is_term, term_of}
use Rattle.bohm_types.specs.Term.{Atom, Lit, Read, Local}
use Rattle.bohm_txn.proofs.ForCallers.{same_key}
use Rattle.bohm_text.specs.Print.{atom_word, first_word}
use Rattle.bohm_text.specs.Reading.{◌>>=◌, digits_of, whole_of, lit_of, atom_of, first_of, sign_of, further_of, local_of}
use Rattle.bohm_text.proofs.Digits.{digit_is}

-- ---- optional values

pub bind_some : {A B : Type 0} (o : Option A) (f : A → Option B) (y : B) → (o >>= f) ≡ Some y → (x : A) × (o ≡ Some x) × (f x ≡ Some y)
bind_some None f y e = absurd cc
bind_some (Some x) f y e = (x, refl, e)

pub map_some : {A B : Type 0} (f : A → B) (o : Option A) (y : B) → option_map f o ≡ Some y → (x : A) × (o ≡ Some x) × (f x ≡ y)
map_some f None y e = absurd cc
map_some f (Some x) y e = (x, refl, cc)

pub chosen : {A : Type 0} (b : Bool) (x y z : A) → cond b x y ≡ z → ((b ≡ true) × (x ≡ z)) ⊎ ((b ≡ false) × (y ≡ z))
chosen true x y z e = inl (refl, e)
chosen false x y z e = inr (refl, e)

pub if_some : {A : Type 0} (b : Bool) (o : Option A) (y : A) → cond b o None ≡ Some y → (b ≡ true) × (o ≡ Some y)
if_some true o y e = (refl, e)
if_some false o y e = absurd cc

pub if_none : {A : Type 0} (b : Bool) (o : Option A) (y : A) → cond b None o ≡ Some y → (b ≡ false) × (o ≡ Some y)
if_none true o y e = absurd cc
if_none false o y e = (refl, e)

-- ---- words

pub key_takes : (w k : List ℕ) → key_of w ≡ Some k → (w ≡ k) × (is_name w ≡ true)
key_takes w k e = let p = if_some (is_name w) (Some w) k e in (same_Some w k p.1, p.0)

pub local_takes : (w x : List ℕ) → local_of w ≡ Some x → (w ≡ 36 ∷ x) × (is_name x ≡ true)
local_takes [] x e = absurd cc
local_takes (c ∷ cs) x e =
    let p = if_some (c == 36) (key_of cs) x e in
    let k = key_takes cs x p.1 in
    (λ i. eqb-true c 36 p.0 i ∷ k.0 i, rw (← k.0) k.1)

value_is : (c : ℕ) → 48 ≤ c → c ≤ 57 → digit_value c ≡ c - 48
value_is c low high = grind (arith, nat_tests)

pub digits_take : (limit n : ℕ) (ds : List ℕ) (v : ℕ) → digits_of limit n ds ≡ Some v → n ≤ limit
    → AllDigits 10 ds × (digits_value_after 10 n ds ≡ v) × (v ≤ limit)
unfolding digits_of
digits_take limit n [] v e within = (tt, same_Some n v e, let same : n ≡ v = same_Some n v e in omega arith)
digits_take limit n (c ∷ cs) v e within =
    let p = if_some (is_ascii_digit c && nat_le (n * 10 + (c - 48)) limit) (digits_of limit (n * 10 + (c - 48)) cs) v e in
    let q = and_parts (is_ascii_digit c) (nat_le (n * 10 + (c - 48)) limit) p.0 in
    let range = digit_is c q.0 in
    let value : digit_value c ≡ c - 48 = value_is c range.0 range.1 in
    let h = digits_take limit (n * 10 + (c - 48)) cs v p.1 (leb-true _ _ q.1) in
    ((rw value (omega (arith, range.0, range.1)), h.0), rw value h.1, h.2)

not_both : (c : ℕ) (cs : List ℕ) → (c == 48 && nat_lt 0 (length cs)) ≡ false → c ≡ 48 → length (c ∷ cs) ≡ 1
not_both c cs e is = grind (arith, nat_tests)

pub whole_takes : (limit : ℕ) (w : List ℕ) (v : ℕ) → limit < 2 ^ 64 → whole_of limit w ≡ Some v → (w ≡ decimal v) × (v ≤ limit)
whole_takes limit [] v small e = absurd cc
whole_takes limit (c ∷ cs) v small e =
    let p = if_none (c == 48 && nat_lt 0 (length cs)) (digits_of limit 0 (c ∷ cs)) v e in
    let h = digits_take limit 0 (c ∷ cs) v p.1 (omega arith) in
    let value : digits_value 10 (c ∷ cs) ≡ v = h.1 in
    let text = decimal-digits_value (numerals_by_value (AllDigits 10) tells_digits) (c ∷ cs) h.0 (omega arith) (not_both c cs p.0)
    (omega (arith, value, h.2)) in
    (sym (rw value at text), h.2)

pub atom_takes : (w : List ℕ) (a : Atom) → atom_of w ≡ Some a → w ≡ atom_word a
unfolding atom_of
atom_takes [] a e = absurd cc
atom_takes (c ∷ cs) a e =
    elim (chosen (c == 36) (option_map Local (key_of cs)) (cond (is_ascii_digit c) (option_map Lit (lit_of (c ∷ cs))) (option_map Read (key_of (c ∷ cs))))
    (Some a) e) [
      | inl p ↦
          let m = map_some Local (key_of cs) a p.1 in
          let k = key_takes cs m.0 m.1 in
          rw (← m.2) (λ i. eqb-true c 36 p.0 i ∷ k.0 i)
      | inr p ↦
          elim (chosen (is_ascii_digit c) (option_map Lit (lit_of (c ∷ cs))) (option_map Read (key_of (c ∷ cs))) (Some a) p.1) [
            | inl q ↦ let m = map_some Lit (lit_of (c ∷ cs)) a q.1 in rw (← m.2) (whole_takes (2 ^ 63 - 1) (c ∷ cs) m.0 (lit< tt) m.1).0
            | inr q ↦ let m = map_some Read (key_of (c ∷ cs)) a q.1 in rw (← m.2) (key_takes (c ∷ cs) m.0 m.1).0
          ]
    ]

term_takes : (minus : Bool) (a : Atom) (t : Bool × Atom) → term_of minus a ≡ Some t → (minus, a) ≡ t
term_takes minus a t e = same_Some (minus, a) t (if_some (is_term minus a) (Some (minus, a)) t e).1

pub first_takes : (w : List ℕ) (t : Bool × Atom) → first_of w ≡ Some t → w ≡ first_word t
unfolding first_of
first_takes [] t e = absurd cc
first_takes (c ∷ cs) t e =
    elim (chosen (c == 45) (atom_of cs >>= λ a. term_of true a) (atom_of (c ∷ cs) >>= λ a. term_of false a) (Some t) e) [
      | inl p ↦
          let b = bind_some (atom_of cs) (λ a. term_of true a) t p.1 in
          rw (← term_takes true b.0 t b.2) (λ i. eqb-true c 45 p.0 i ∷ atom_takes cs b.0 b.1 i)
      | inr p ↦
          let b = bind_some (atom_of (c ∷ cs)) (λ a. term_of false a) t p.1 in
          rw (← term_takes false b.0 t b.2) (atom_takes (c ∷ cs) b.0 b.1)
    ]

pub sign_takes : (w : List ℕ) (m : Bool) → sign_of w ≡ Some m → w ≡ cond m (codes "-") (codes "+")
unfolding sign_of
sign_takes w m e =
    elim (chosen (bytes_eq w (codes "-")) (Some true) (cond (bytes_eq w (codes "+")) (Some false) None) (Some m) e) [
      | inl p ↦ rw (← same_Some true m p.1) (same_key w (codes "-") p.0)
      | inr p ↦ let q = if_some (bytes_eq w (codes "+")) (Some false) m p.1 in rw (← same_Some false m q.1) (same_key w (codes "+") q.0)
    ]

pub further_takes : (minus : Bool) (w : List ℕ) (t : Bool × Atom) → further_of minus w ≡ Some t → (t.0 ≡ minus) × (w ≡ atom_word t.1)
unfolding further_of
further_takes minus w t e =
    let b = bind_some (atom_of w) (λ a. term_of minus a) t e in
    let same : (minus, b.0) ≡ t = term_takes minus b.0 t b.2 in
    subst (λ (x : Bool × Atom). (x.0 ≡ minus) × (w ≡ atom_word x.1)) same (refl, atom_takes w b.0 b.1)
