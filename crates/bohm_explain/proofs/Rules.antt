-- The rule of the heaviest chains: a position's own weight, plus the greatest one at the other ends of its arrows.
use Rattle.std.proofs.Common.{◌≡◌, ℕ, zero, suc, ◌+◌, ◌-◌, ◌*◌, ◌^◌, ◌<◌, ◌≤◌, List, [], ◌∷◌, ◌++◌, length}
use Rattle.std.proofs.Common.{slice_index, All, ⊎_elim, refl, sym, ap, ◌∙◌, arith, zero-add, length-append}
use Rattle.std.proofs.lemmas.Bool.{cases_lt}
use Rattle.std.proofs.lemmas.Grind.{get_or_default_zero}
use Rattle.std.proofs.Math.ListN.{get_or-append, get_or-eq_default}
use Rattle.std.proofs.Math.Seq.{get_or-append_seam}
use Rattle.bohm_explain.specs.declared.arrow.Arrow.{Arrow}
use Rattle.bohm_explain.specs.Heaviest.{AreRising, greatest_wanted, greatest_wanting, ending_below, heaviest_to, beginning_from, heaviest_from}
use Rattle.bohm_explain.proofs.Greatest.{agrees, bounded}

-- ---- the numbers that a position's greatest number depends on

-- numberings that agree below p have the same greatest number among the positions whose versions p wants
wanted_same : (f g : ℕ → ℕ) (p n : ℕ) (arrows : List Arrow) → AreRising n arrows → ((q : ℕ) → q < p → f q ≡ g q)
    → greatest_wanted f arrows p ≡ greatest_wanted g arrows p
wanted_same f g p n [] rises same = refl
wanted_same f g p n (a ∷ rest) rises same =
    agrees (λ x. x.to) (λ x. x.from) f g a rest p (λ is. same a.from (let up = rises.1 in omega (arith, up, is))) (wanted_same f g p a.to rest rises.2 same)

-- numberings that agree above p have the same greatest number among the positions that want p's version
wanting_same : (f g : ℕ → ℕ) (p n : ℕ) (arrows : List Arrow) → AreRising n arrows → ((q : ℕ) → p < q → f q ≡ g q)
    → greatest_wanting f arrows p ≡ greatest_wanting g arrows p
wanting_same f g p n [] rises same = refl
wanting_same f g p n (a ∷ rest) rises same =
    agrees (λ x. x.from) (λ x. x.to) f g a rest p (λ is. same a.to (let up = rises.1 in omega (arith, up, is))) (wanting_same f g p a.to rest rises.2 same)

-- ---- chains that end at a position

at_end : (xs : List ℕ) (y p : ℕ) → p ≡ length xs → slice_index (xs ++ y ∷ []) p ≡ y
at_end xs y p is = rw is (get_or-append_seam xs y [] 0)

module _ (weights : List ℕ) (arrows : List Arrow) where
  pub length_below : (n : ℕ) → length (ending_below weights arrows n) ≡ n
  length_below zero = refl
  length_below (suc n) = let before = length_below n in simp length-append (omega (arith, before))

  pub paired_to : length (heaviest_to weights arrows) ≡ length weights
  paired_to = length_below (length weights)

  -- the rule holds for the positions up to n if it holds for those below n
  chain_more : (n p : ℕ) → (p < n → slice_index (ending_below weights arrows n) p ≡ slice_index weights p + greatest_wanted
      (slice_index (ending_below weights arrows p)) arrows p) → p < suc n
      → slice_index (ending_below weights arrows (suc n)) p ≡ slice_index weights p + greatest_wanted (slice_index (ending_below weights arrows p)) arrows p
  chain_more n p so_far lt = ⊎_elim before last (cases_lt p n)
    where
      before : p < n → slice_index (ending_below weights arrows (suc n)) p ≡ slice_index weights p + greatest_wanted
          (slice_index (ending_below weights arrows p)) arrows p
      before low =
          let inside : p < length (ending_below weights arrows n) = let is = length_below n in omega (arith, is, low) in
          get_or-append (ending_below weights arrows n) _ 0 p inside ∙ so_far low

      last : n ≤ p → slice_index (ending_below weights arrows (suc n)) p ≡ slice_index weights p + greatest_wanted
          (slice_index (ending_below weights arrows p)) arrows p
      last high =
          let same : p ≡ n = omega (arith, high, lt) in
          rw same (at_end (ending_below weights arrows n) _ n (sym (length_below n)))

  chain_at : (n p : ℕ) → p < n → slice_index (ending_below weights arrows n) p ≡ slice_index weights p + greatest_wanted
      (slice_index (ending_below weights arrows p)) arrows p
  chain_at zero p lt = absurd (omega arith)
  chain_at (suc n) p lt = chain_more n p (chain_at n p) lt

  pub rule_to : (p : ℕ) → AreRising zero arrows → p < length weights
      → slice_index (heaviest_to weights arrows) p ≡ slice_index weights p + greatest_wanted (slice_index (heaviest_to weights arrows)) arrows p
  rule_to p rises inside =
      let stay : (q : ℕ) → q < p → slice_index (ending_below weights arrows p) q ≡ slice_index (heaviest_to weights arrows) q =
      λ q low. chain_at p q low ∙ sym (chain_at (length weights) q (omega (arith, low, inside))) in
      chain_at (length weights) p inside ∙ ap (λ (m : ℕ). slice_index weights p + m) (wanted_same _ _ p zero arrows rises stay)

-- ---- chains that begin at a position

pub length_from : (p : ℕ) (weights : List ℕ) (arrows : List Arrow) → length (beginning_from p weights arrows) ≡ length weights
length_from p [] arrows = refl
length_from p (w ∷ weights) arrows = let later = length_from (suc p) weights arrows in simp later

in_front : (x : ℕ) (later : List ℕ) (p q : ℕ) → p < q → slice_index later (q - suc p) ≡ slice_index (x ∷ later) (q - p)
in_front x later p q lt = let one : q - p ≡ suc (q - suc p) = omega (arith, lt) in rw one refl

rule_behind : (p : ℕ) (weights : List ℕ) (arrows : List Arrow) (k : ℕ) → AreRising zero arrows → k < length weights → slice_index
    (beginning_from p weights arrows) k ≡ slice_index weights k + greatest_wanting (λ q. slice_index (beginning_from p weights arrows) (q - p)) arrows (p + k)
rule_behind p [] arrows k rises inside = absurd (omega arith)
rule_behind p (w ∷ weights) arrows zero rises inside =
    let here : p + zero ≡ p = omega arith in
    rw here (ap (λ (m : ℕ). w + m) (wanting_same _ _ p zero arrows rises (in_front _ (beginning_from (suc p) weights arrows) p)))
rule_behind p (w ∷ weights) arrows (suc k) rises inside =
    let later = beginning_from (suc p) weights arrows in
    let behind : suc p + k ≡ p + suc k = omega arith in
    let rest : slice_index later k ≡ slice_index weights k + greatest_wanting (λ q. slice_index later (q - suc p)) arrows (p + suc k) =
    rw (← behind) (rule_behind (suc p) weights arrows k rises (omega arith)) in
    rest ∙ ap (λ (m : ℕ). slice_index weights k + m) (wanting_same _ _ (p + suc k) zero arrows rises (λ q lt. in_front _ later p q (omega (arith, lt))))

pub rule_from : (weights : List ℕ) (arrows : List Arrow) (p : ℕ) → AreRising zero arrows → p < length weights
    → slice_index (heaviest_from weights arrows) p ≡ slice_index weights p + greatest_wanting (slice_index (heaviest_from weights arrows)) arrows p
rule_from weights arrows p rises inside =
    let all : slice_index (heaviest_from weights arrows) p ≡ slice_index weights p + greatest_wanting
    (λ q. slice_index (heaviest_from weights arrows) (q - zero)) arrows p = simp zero-add at (rule_behind zero weights arrows p rises inside) in
    all ∙ ap (λ (m : ℕ). slice_index weights p + m)
    (wanting_same _ _ p zero arrows rises (λ q lt. ap (slice_index (heaviest_from weights arrows)) (omega arith)))

-- ---- no chain weighs more than the number of positions times the greatest weight

light_front : (x : ℕ) (xs : List ℕ) (most : ℕ) → x ≤ most → ((q : ℕ) → slice_index xs q ≤ most) → (q : ℕ) → slice_index (x ∷ xs) q ≤ most
light_front x xs most first rest zero = first
light_front x xs most first rest (suc q) = rest q

light_end : (xs : List ℕ) (y most : ℕ) → ((q : ℕ) → slice_index xs q ≤ most) → y ≤ most → (q : ℕ) → slice_index (xs ++ y ∷ []) q ≤ most
light_end [] y most front last zero = last
light_end [] y most front last (suc q) = omega arith
light_end (x ∷ xs) y most front last zero = front zero
light_end (x ∷ xs) y most front last (suc q) = light_end xs y most (λ j. front (suc j)) last q

pub light_below : (weights : List ℕ) (arrows : List Arrow) (most n : ℕ) → ((p : ℕ) → slice_index weights p ≤ most) → (p : ℕ)
    → slice_index (ending_below weights arrows n) p ≤ most * n
light_below weights arrows most zero light p = omega arith
light_below weights arrows most (suc n) light p =
    let before = ending_below weights arrows n in
    let chains = light_below weights arrows most n light in
    let least : most * n + most ≡ most * suc n = omega arith in
    let more : greatest_wanted (slice_index before) arrows n ≤ most * n = bounded (λ a. a.to) (λ a. a.from) (slice_index before) (most * n) arrows n chains in
    let own = light n in
    light_end before _ (most * suc n) (λ q. let low = chains q in omega (arith, low, least)) (omega (arith, own, more, least)) p

light_behind : (p : ℕ) (weights : List ℕ) (arrows : List Arrow) (most : ℕ) → ((k : ℕ) → slice_index weights k ≤ most) → (k : ℕ)
    → slice_index (beginning_from p weights arrows) k ≤ most * length weights
light_behind p [] arrows most light k = omega arith
light_behind p (w ∷ weights) arrows most light k =
    let later = beginning_from (suc p) weights arrows in
    let chains = light_behind (suc p) weights arrows most (λ j. light (suc j)) in
    let least : most * length weights + most ≡ most * suc (length weights) = omega arith in
    let more : greatest_wanting (λ q. slice_index later (q - suc p)) arrows p ≤ most * length weights =
    bounded (λ a. a.from) (λ a. a.to) (λ q. slice_index later (q - suc p)) (most * length weights) arrows p (λ q. chains (q - suc p)) in
    let own : w ≤ most = light zero in
    light_front _ later (most * suc (length weights)) (omega (arith, own, more, least)) (λ q. let low = chains q in omega (arith, low, least)) k

module _ (most : ℕ) where
  lights : (xs : List ℕ) → All (λ x. x ≤ most) xs → (p : ℕ) → slice_index xs p ≤ most
  lights xs all p = ⊎_elim (λ low. all p 0 low) (λ high. let none = get_or-eq_default xs 0 high in omega (arith, none)) (cases_lt p (length xs))

  all_light : (xs : List ℕ) → ((p : ℕ) → slice_index xs p ≤ most) → All (λ x. x ≤ most) xs
  all_light xs each p d low = let here = each p in let same = get_or_default_zero xs p d low in omega (arith, here, same)

module _ (weights : List ℕ) (arrows : List Arrow) (few : length weights ≤ 4096) (light : All (λ w. w ≤ 3072) weights) where
  pub light_to : All (λ c. c ≤ 2 ^ 24) (heaviest_to weights arrows)
  light_to = all_light (2 ^ 24) (heaviest_to weights arrows)
      (λ p. let h = light_below weights arrows 3072 (length weights) (lights 3072 weights light) p in omega (arith, h))

  pub light_from : All (λ c. c ≤ 2 ^ 24) (heaviest_from weights arrows)
  light_from = all_light (2 ^ 24) (heaviest_from weights arrows)
      (λ p. let h = light_behind zero weights arrows 3072 (lights 3072 weights light) p in omega (arith, h))
