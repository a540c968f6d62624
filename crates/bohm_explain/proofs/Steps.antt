-- The heaviest chains, computed arrow by arrow as in the code.
use Rattle.std.proofs.Common.{◌≡◌, ◌≢◌, ℕ, zero, suc, ◌+◌, ◌<◌, ◌≤◌, List, [], ◌∷◌, length, slice_index, slice_set}
use Rattle.std.proofs.Common.{fold, max, All, ⊎_elim, refl, sym, ap, subst, ◌∙◌, arith, length-set, ext_get_or}
use Rattle.std.proofs.lemmas.Bool.{cases_eq}
use Rattle.std.proofs.lemmas.List.{get_or-set_same, get_or-set_other}
use Rattle.bohm_explain.specs.declared.arrow.Arrow.{Arrow}
use Rattle.bohm_explain.specs.Heaviest.{IsInside, AreRising, greatest_wanted, greatest_wanting, heaviest_to, heaviest_from}
use Rattle.bohm_explain.proofs.Greatest.{taken, passed}
use Rattle.bohm_explain.proofs.Rules.{rule_to, paired_to, rule_from, length_from}

-- one more arrow: the chain to `a.to` weighs at least the chain to `a.from` plus the weight of `a.to`
abbrev pub lengthened : List ℕ → List ℕ → Arrow → List ℕ
lengthened weights heaviest a = slice_set heaviest a.to (max (slice_index heaviest a.to) (slice_index weights a.to + slice_index heaviest a.from))

-- one more arrow: the chain from `a.from` weighs at least the chain from `a.to` plus the weight of `a.from`
abbrev pub led_on : List ℕ → List ℕ → Arrow → List ℕ
led_on weights heaviest a = slice_set heaviest a.from (max (slice_index heaviest a.from) (slice_index weights a.from + slice_index heaviest a.to))

abbrev pub led_from : List ℕ → List Arrow → List ℕ
led_from weights [] = weights
led_from weights (a ∷ rest) = led_on weights (led_from weights rest) a

-- ---- chains that end at each position

module _ (weights : List ℕ) (final : ℕ → ℕ) where
  none_to : (n : ℕ) (rest : List Arrow) (p : ℕ) → AreRising n rest → p < n → greatest_wanted final rest p ≡ zero
  none_to n [] p rises low = refl
  none_to n (a ∷ rest) p rises low =
      let least = rises.0 in
      passed (λ x. x.to) (λ x. x.from) final a rest p (λ is. omega (arith, least, is, low)) ∙ none_to a.to rest p rises.2 (omega (arith, least, low))

  -- the weights made by the arrows so far, with those that the remaining arrows add, are the final weights
  record Underway (made : List ℕ) (rest : List Arrow) : Type 0 where
    paired : length made ≡ length weights
    least : (p : ℕ) → slice_index weights p ≤ slice_index made p
    whole : (p : ℕ) → p < length weights → max (slice_index made p) (slice_index weights p + greatest_wanted final rest p) ≡ final p

  module _ (made : List ℕ) (a : Arrow) (rest : List Arrow) (inside : IsInside (length weights) a) (up : a.from < a.to) (rises : AreRising a.to rest)
      (so_far : Underway made (a ∷ rest)) where
    source : slice_index made a.from ≡ final a.from
    source =
        let none = passed (λ x. x.to) (λ x. x.from) final a rest a.from (λ is. omega (arith, is, up)) ∙ none_to a.to rest a.from rises up in
        let least = so_far.least a.from in
        let whole = rw none at (so_far.whole a.from inside.0) in
        omega (arith, least, whole)

    at_to : slice_index (lengthened weights made a) a.to ≡ max (slice_index made a.to) (slice_index weights a.to + slice_index made a.from)
    at_to = get_or-set_same made a.to _ 0 (let is = so_far.paired in let low = inside.1 in omega (arith, is, low))

    elsewhere : (p : ℕ) → p ≢ a.to → slice_index (lengthened weights made a) p ≡ slice_index made p
    elsewhere p isnt = get_or-set_other made a.to p _ 0 isnt

    step_least : (p : ℕ) → slice_index weights p ≤ slice_index (lengthened weights made a) p
    step_least p = ⊎_elim (λ is. (let least = so_far.least p in rw is (omega (arith, at_to, rw is at least))))
        (λ isnt. rw (elsewhere p isnt) (so_far.least p)) (cases_eq p a.to)

    step_whole : (p : ℕ) → p < length weights → max (slice_index (lengthened weights made a) p) (slice_index weights p + greatest_wanted final rest p) ≡ final p
    step_whole p low = ⊎_elim at_p away (cases_eq p a.to)
      where
        at_p : p ≡ a.to → max (slice_index (lengthened weights made a) p) (slice_index weights p + greatest_wanted final rest p) ≡ final p
        at_p is =
            let whole = rw (taken (λ x. x.to) (λ x. x.from) final a rest a.to refl) at (so_far.whole a.to inside.1) in
            rw (is, at_to) (omega (arith, whole, source))

        away : p ≢ a.to → max (slice_index (lengthened weights made a) p) (slice_index weights p + greatest_wanted final rest p) ≡ final p
        away isnt = rw (elsewhere p isnt, ← passed (λ x. x.to) (λ x. x.from) final a rest p (λ is. isnt (sym is))) (so_far.whole p low)

    step_to : Underway (lengthened weights made a) rest
    step_to = record { paired = length-set made a.to _ ∙ so_far.paired; least = step_least; whole = step_whole }

  fold_to : (n : ℕ) (made : List ℕ) (rest : List Arrow) → AreRising n rest → All (IsInside (length weights)) rest → Underway made rest → (p : ℕ)
      → p < length weights → slice_index (fold (lengthened weights) made rest) p ≡ final p
  fold_to n made [] rises inside so_far p low =
      let least = so_far.least p in
      let whole : max (slice_index made p) (slice_index weights p + zero) ≡ final p = so_far.whole p low in
      omega (arith, least, whole)
  fold_to n made (a ∷ rest) rises inside so_far p low =
      fold_to a.to (lengthened weights made a) rest rises.2 (λ i d lt. inside (suc i) d (omega arith))
      (step_to made a rest (inside zero a (omega arith)) rises.1 rises.2 so_far) p low

pub made_to : (weights : List ℕ) (arrows : List Arrow) → AreRising zero arrows → All (IsInside (length weights)) arrows → (made : List ℕ)
    → length made ≡ length weights → made ≡ fold (lengthened weights) weights arrows → made ≡ heaviest_to weights arrows
made_to weights arrows rises inside made long is =
    let final = slice_index (heaviest_to weights arrows) in
    let whole : (p : ℕ) → p < length weights → max (slice_index weights p) (slice_index weights p + greatest_wanted final arrows p) ≡ final p =
    λ p low. let rule = rule_to weights arrows p rises low in omega (arith, rule) in
    let start : Underway weights final weights arrows = record { paired = refl; least = λ p. omega arith; whole = whole } in
    ext_get_or 0 made (heaviest_to weights arrows) (long ∙ sym (paired_to weights arrows))
    (λ p low. ap (λ (xs : List ℕ). slice_index xs p) is ∙ fold_to weights final zero weights arrows rises inside start p (omega (arith, low, long)))

-- ---- chains that begin at each position

module _ (weights : List ℕ) (final : ℕ → ℕ) where
  length_led : (rest : List Arrow) → length (led_from weights rest) ≡ length weights
  length_led [] = refl
  length_led (a ∷ rest) = length-set (led_from weights rest) a.from _ ∙ length_led rest

  -- `led_from` has each position's weight plus the greatest final weight to which its arrows among these lead
  abbrev AreLed : List Arrow → Type 0
  AreLed rest = (p : ℕ) → p < length weights → slice_index (led_from weights rest) p ≡ slice_index weights p + greatest_wanting final rest p

  -- these arrows alone determine the final weights of the positions from n on
  abbrev AreFinal : ℕ → List Arrow → Type 0
  AreFinal n rest = (p : ℕ) → n ≤ p → p < length weights → final p ≡ slice_index weights p + greatest_wanting final rest p

  step_from : (a : Arrow) (rest : List Arrow) → IsInside (length weights) a → final a.to ≡ slice_index weights a.to + greatest_wanting final rest a.to
      → AreLed rest → AreLed (a ∷ rest)
  step_from a rest inside last led p low = ⊎_elim at_p away (cases_eq p a.from)
    where
      at_from : slice_index (led_from weights (a ∷ rest)) a.from ≡ slice_index weights a.from + greatest_wanting final (a ∷ rest) a.from
      at_from =
          let own = led a.from inside.0 in
          let other = led a.to inside.1 in
          let set = get_or-set_same (led_from weights rest) a.from
          (max (slice_index (led_from weights rest) a.from) (slice_index weights a.from + slice_index (led_from weights rest) a.to)) 0
          (let long = length_led rest in let low = inside.0 in omega (arith, long, low)) in
          let sum : max (slice_index (led_from weights rest) a.from) (slice_index weights a.from + slice_index (led_from weights rest) a.to)
          ≡ slice_index weights a.from + max (final a.to) (greatest_wanting final rest a.from) = omega (arith, own, other, last) in
          set ∙ (sum ∙ ap (λ (m : ℕ). slice_index weights a.from + m) (sym (taken (λ x. x.from) (λ x. x.to) final a rest a.from refl)))

      at_p : p ≡ a.from → slice_index (led_from weights (a ∷ rest)) p ≡ slice_index weights p + greatest_wanting final (a ∷ rest) p
      at_p is = subst (λ (q : ℕ). slice_index (led_from weights (a ∷ rest)) q ≡ slice_index weights q + greatest_wanting final (a ∷ rest) q) (sym is) at_from

      away : p ≢ a.from → slice_index (led_from weights (a ∷ rest)) p ≡ slice_index weights p + greatest_wanting final (a ∷ rest) p
      away isnt = get_or-set_other (led_from weights rest) a.from p _ 0 isnt
          ∙ (led p low ∙ ap (λ (m : ℕ). slice_index weights p + m) (sym (passed (λ x. x.from) (λ x. x.to) final a rest p (λ is. isnt (sym is)))))

  kept_final : (n : ℕ) (a : Arrow) (rest : List Arrow) → AreRising n (a ∷ rest) → AreFinal n (a ∷ rest) → AreFinal a.to rest
  kept_final n a rest rises final_from p le low =
      let least = rises.0 in
      let up = rises.1 in
      final_from p (omega (arith, least, le)) low
      ∙ ap (λ (m : ℕ). slice_index weights p + m) (passed (λ x. x.from) (λ x. x.to) final a rest p (λ is. omega (arith, up, is, le)))

  led_all : (n : ℕ) (rest : List Arrow) → AreRising n rest → All (IsInside (length weights)) rest → AreFinal n rest → AreLed rest
  led_all n [] rises inside final_from = λ p low. omega arith
  led_all n (a ∷ rest) rises inside final_from =
      let here : IsInside (length weights) a = inside zero a (omega arith) in
      let later = kept_final n a rest rises final_from in
      step_from a rest here (later a.to (omega arith) here.1) (led_all a.to rest rises.2 (λ i d lt. inside (suc i) d (omega arith)) later)

pub made_from : (weights : List ℕ) (arrows : List Arrow) → AreRising zero arrows → All (IsInside (length weights)) arrows
    → led_from weights arrows ≡ heaviest_from weights arrows
made_from weights arrows rises inside =
    let final = slice_index (heaviest_from weights arrows) in
    let rule : (p : ℕ) → p < length weights → final p ≡ slice_index weights p + greatest_wanting final arrows p =
    λ p low. rule_from weights arrows p rises low in
    let long = length_led weights final arrows in
    ext_get_or 0 (led_from weights arrows) (heaviest_from weights arrows) (long ∙ sym (length_from zero weights arrows))
    (λ p low. let inside_p : p < length weights = omega (arith, low, long) in
    led_all weights final zero arrows rises inside (λ q le lt. rule q lt) p inside_p ∙ sym (rule p inside_p))

-- ---- one more arrow, in order from the last to the first

pub bounded_set : (hs : List ℕ) (i m n k : ℕ) → ((j : ℕ) → slice_index hs j ≤ n) → m ≤ n → slice_index (slice_set hs i m) k ≤ n
bounded_set [] i m n k h le = h k
bounded_set (x ∷ xs) zero m n zero h le = le
bounded_set (x ∷ xs) zero m n (suc k) h le = h (suc k)
bounded_set (x ∷ xs) (suc i) m n zero h le = h zero
bounded_set (x ∷ xs) (suc i) m n (suc k) h le = bounded_set xs i m n k (λ j. h (suc j)) le

pub one_before : (weights hs : List ℕ) (whole rest : List Arrow) (a : Arrow) (m : ℕ) → whole ≡ a ∷ rest → hs ≡ led_from weights rest
    → m ≡ max (slice_index hs a.from) (slice_index weights a.from + slice_index hs a.to) → slice_set hs a.from m ≡ led_from weights whole
one_before weights hs whole rest a m front before is =
    ap (λ (v : ℕ). slice_set hs a.from v) is
    ∙ (ap (λ (g : List ℕ). slice_set g a.from (max (slice_index g a.from) (slice_index weights a.from + slice_index g a.to))) before
    ∙ ap (led_from weights) (sym front))
