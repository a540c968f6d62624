-- The greatest number at the other ends of the arrows that have one end at a position.
use Rattle.std.proofs.Common.{◌≡◌, ◌≢◌, ℕ, zero, suc, ◌≤◌, ◌==◌, All, List, [], ◌∷◌, map, filter, max, ⊎_elim, refl, sym, ◌∙◌, arith}
use Rattle.std.proofs.lemmas.Bool.{cases_eq, eq-eqb, ne_eqb}
use Rattle.std.proofs.Math.Nat.{max-le}
use Rattle.bohm_place.specs.Chains.{greatest}
use Rattle.bohm_explain.specs.declared.arrow.Arrow.{Arrow}

-- of the arrows whose end `here` is p, the greatest number at their end `there`, or 0
abbrev pub picked : (Arrow → ℕ) → (Arrow → ℕ) → (ℕ → ℕ) → List Arrow → ℕ → ℕ
picked here there number arrows p = greatest (map (λ a. number (there a)) (filter (λ a. here a == p) arrows))

module _ (here there : Arrow → ℕ) where
  pub taken : (number : ℕ → ℕ) (a : Arrow) (rest : List Arrow) (p : ℕ) → here a ≡ p
      → picked here there number (a ∷ rest) p ≡ max (number (there a)) (picked here there number rest p)
  taken number a rest p is = rw (eq-eqb (here a) p is) refl

  pub passed : (number : ℕ → ℕ) (a : Arrow) (rest : List Arrow) (p : ℕ) → here a ≢ p → picked here there number (a ∷ rest) p ≡ picked here there number rest p
  passed number a rest p isnt = rw (ne_eqb (here a) p isnt) refl

  -- two numberings with the same greatest number still have the same after one more arrow on which they agree
  pub agrees : (f g : ℕ → ℕ) (a : Arrow) (rest : List Arrow) (p : ℕ) → (here a ≡ p → f (there a) ≡ g (there a))
      → picked here there f rest p ≡ picked here there g rest p → picked here there f (a ∷ rest) p ≡ picked here there g (a ∷ rest) p
  agrees f g a rest p same before = ⊎_elim at_p elsewhere (cases_eq (here a) p)
    where
      at_p : here a ≡ p → picked here there f (a ∷ rest) p ≡ picked here there g (a ∷ rest) p
      at_p is = let e = same is in let left = taken f a rest p is in let right = taken g a rest p is in (cc)

      elsewhere : here a ≢ p → picked here there f (a ∷ rest) p ≡ picked here there g (a ∷ rest) p
      elsewhere isnt = passed f a rest p isnt ∙ (before ∙ sym (passed g a rest p isnt))

  -- the greatest number stays at most m with one more arrow whose number is at most m
  no_more : (number : ℕ → ℕ) (m : ℕ) (a : Arrow) (rest : List Arrow) (p : ℕ) → number (there a) ≤ m → picked here there number rest p ≤ m
      → picked here there number (a ∷ rest) p ≤ m
  no_more number m a rest p low before = ⊎_elim at_p elsewhere (cases_eq (here a) p)
    where
      at_p : here a ≡ p → picked here there number (a ∷ rest) p ≤ m
      at_p is = rw (taken number a rest p is) (max-le low before)

      elsewhere : here a ≢ p → picked here there number (a ∷ rest) p ≤ m
      elsewhere isnt = rw (passed number a rest p isnt) before

  pub bounded : (number : ℕ → ℕ) (m : ℕ) (arrows : List Arrow) (p : ℕ) → ((q : ℕ) → number q ≤ m) → picked here there number arrows p ≤ m
  bounded number m [] p low = omega arith
  bounded number m (a ∷ rest) p low = no_more number m a rest p (low (there a)) (bounded number m rest p low)

-- ---- the greatest number

pub at_most_greatest : (ds : List ℕ) → All (λ d. d ≤ greatest ds) ds
at_most_greatest [] i d inside = absurd (omega (arith, inside))
at_most_greatest (x ∷ ds) zero d inside = omega arith
at_most_greatest (x ∷ ds) (suc i) d inside = omega (arith, at_most_greatest ds i d (omega arith))

pub greatest_at_most : (n : ℕ) (ds : List ℕ) → All (λ d. d ≤ n) ds → greatest ds ≤ n
greatest_at_most n [] all = omega arith
greatest_at_most n (x ∷ ds) all = omega (arith, all 0 0 (omega arith), greatest_at_most n ds (λ i d inside. all (suc i) d (omega arith)))
