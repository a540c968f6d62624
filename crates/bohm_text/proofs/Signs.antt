-- A sign with a space after it is a word with another word after it.
use Rattle.std.proofs.Common.{◌≡◌, ℕ, ◌<◌, Bool, true, false, cond, List, [], ◌∷◌, drop, get_or, length, Some, None, inl, inr, refl, sym, ◌∙◌, arith}
use Rattle.std.specs.Prelude.{◌==◌, ◌&&◌, ◌||◌, nat_eq}
use Rattle.std.proofs.lemmas.Bool.{eqb-true, or_cases, and_parts}
use Rattle.bohm_text.specs.Print.{Words}
use Rattle.bohm_text.specs.Cut.{onto_first, split}
use Rattle.bohm_text.specs.Reading.{sign_of}
use Rattle.bohm_text.specs.Signs.{begins_signed, sign_ahead}
use Rattle.bohm_text.proofs.Cutting.{split-some}

-- a first word is read as a sign if other words follow
ahead : (sign : List ℕ) (words : Words) → 0 < length words → sign_ahead (sign ∷ words) ≡ sign_of sign
ahead sign [] some = absurd (omega (arith, some))
ahead sign (word ∷ words) some = refl

long : (a b : ℕ) (word : List ℕ) → sign_of (a ∷ b ∷ word) ≡ None
unfolding sign_of
long a b word = elim (a == 45) as (λ s. cond (s && false) (Some true) (cond ((a == 43) && false) (Some false) None) ≡ None) [
  | true ↦ elim (a == 43) as (λ t. cond (t && false) (Some false) None ≡ None) [ true ↦ refl | false ↦ refl ]
  | false ↦ elim (a == 43) as (λ t. cond (t && false) (Some false) None ≡ None) [ true ↦ refl | false ↦ refl ]
]

one_byte : (a : ℕ) → (a == 45) || (a == 43) ≡ false → sign_of (a ∷ []) ≡ None
unfolding sign_of
one_byte a none = elim (a == 45) as (λ s. (s || (a == 43)) ≡ false → cond (s && true) (Some true) (cond ((a == 43) && true) (Some false) None) ≡ None) [
  | true ↦ λ e. absurd cc
  | false ↦ elim (a == 43) as (λ t. t ≡ false → cond (t && true) (Some false) None ≡ None) [ true ↦ λ e. absurd cc | false ↦ λ e. refl ]
] none

no_word : None ≡ sign_of []
unfolding sign_of
no_word = refl

behind : (b : ℕ) (words : Words) (t : Bool) → 0 < length words → 0 < length (cond t ([] ∷ words) (onto_first b words))
behind b words true some = omega arith
behind b [] false some = some
behind b (word ∷ words) false some = omega arith

two_onto : (a b : ℕ) (words : Words) → 0 < length words → sign_ahead (onto_first a (onto_first b words)) ≡ None
two_onto a b [] some = absurd (omega (arith, some))
two_onto a b (word ∷ []) some = refl
two_onto a b (word ∷ next ∷ words) some = long a b word

-- bytes that begin with a sign and a space split into the sign and the words after the space
pub signed_words : (bytes : List ℕ) → begins_signed bytes ≡ true → split 32 bytes ≡ (get_or bytes 0 0 ∷ []) ∷ split 32 (drop 2 bytes)
unfolding begins_signed split
signed_words [] e = absurd cc
signed_words (a ∷ []) e = absurd cc
signed_words (a ∷ b ∷ bs) e =
    let p = and_parts (b == 32) ((a == 45) || (a == 43)) e in
    elim (or_cases (a == 45) (a == 43) p.1) [
      | inl q ↦ rw (eqb-true a 45 q, eqb-true b 32 p.0) refl
      | inr q ↦ rw (eqb-true a 43 q, eqb-true b 32 p.0) refl
    ]

pub sign_there : (bytes : List ℕ) → begins_signed bytes ≡ true → Some (nat_eq (get_or bytes 0 0) 45) ≡ sign_ahead (split 32 bytes)
unfolding begins_signed sign_of
sign_there [] e = absurd cc
sign_there (a ∷ []) e = absurd cc
sign_there (a ∷ b ∷ bs) e =
    let words = signed_words (a ∷ b ∷ bs) e in
    let p = and_parts (b == 32) ((a == 45) || (a == 43)) e in
    elim (or_cases (a == 45) (a == 43) p.1) [
      | inl q ↦ rw (words, ahead (a ∷ []) (split 32 bs) (split-some 32 bs), eqb-true a 45 q) refl
      | inr q ↦ rw (words, ahead (a ∷ []) (split 32 bs) (split-some 32 bs), eqb-true a 43 q) refl
    ]

pub no_sign : (bytes : List ℕ) → begins_signed bytes ≡ false → None ≡ sign_ahead (split 32 bytes)
unfolding begins_signed split
no_sign [] e = refl
no_sign (a ∷ []) e = elim (a == 32) as (λ t. None ≡ sign_ahead (cond t ([] ∷ [] ∷ []) (onto_first a ([] ∷ [])))) [ true ↦ no_word | false ↦ refl ]
no_sign (a ∷ b ∷ bs) e =
    let words = split 32 bs in
    let some : 0 < length words = split-some 32 bs in
    let more : Bool → Words = λ (t : Bool). cond t ([] ∷ words) (onto_first b words) in
    let P : Bool → Bool → Type 0 = λ (s t : Bool). t && ((a == 45) || (a == 43)) ≡ false → None ≡ sign_ahead (cond s ([] ∷ more t) (onto_first a (more t))) in
    elim (a == 32) as (λ s. P s (b == 32)) [
      | true ↦ λ _. sym (ahead [] (cond (b == 32) ([] ∷ words) (onto_first b words)) (behind b words (b == 32) some) ∙ sym no_word)
      | false ↦ elim (b == 32) as (P false) [
        | true ↦ λ h. sym (ahead (a ∷ []) words some ∙ one_byte a h)
        | false ↦ λ _. sym (two_onto a b words some)
      ]
    ] e
