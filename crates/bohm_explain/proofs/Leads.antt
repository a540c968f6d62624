-- The longest chain of some heats, and the first key that has this chain, with one more heat.
use Rattle.std.proofs.Common.{◌≡◌, ◌≢◌, ◌∙◌, ℕ, zero, suc, ◌+◌, ◌<◌, ◌≤◌, max, List, [], ◌∷◌, ◌++◌, take}
use Rattle.std.proofs.Common.{length, get_or, Bool, true, false, cond, eqb, Some, None, refl, sym, ap, arith}
use Rattle.std.specs.List.{find}
use Rattle.std.proofs.lemmas.List.{take_more}
use Rattle.std.proofs.lemmas.List.Folds.{find-append}
use Rattle.bohm_explain.specs.declared.heat.Heat.{Heat}
use Rattle.bohm_explain.specs.Table.{longest, leading}

pub longest_push : (xs : List Heat) (h : Heat) → longest (xs ++ h ∷ []) ≡ max (longest xs) h.chain
longest_push [] h = omega arith
longest_push (x ∷ xs) h = let more = longest_push xs h in omega (arith, more)

-- no heat has a chain that is longer than the longest
above : (xs : List Heat) (n : ℕ) → longest xs < n → find (λ h. eqb h.chain n) xs ≡ None
above [] n lt = refl
above (x ∷ xs) n lt =
    let apart : eqb x.chain n ≡ false = grind (arith, lt) in
    rw apart (above xs n (omega (arith, lt)))

-- some heat has the longest chain, if that isn't 0
reached : (xs : List Heat) (n : ℕ) → 0 < n → n ≡ longest xs → (y : Heat) × (find (λ h. eqb h.chain n) xs ≡ Some y)
reached [] n some is = absurd (omega (arith, some, is))
reached (x ∷ xs) n some is = by (eqb x.chain n) refl (reached xs n some)
  where
    by : (b : Bool) → eqb x.chain n ≡ b → (n ≡ longest xs → (y : Heat) × (find (λ h. eqb h.chain n) xs ≡ Some y))
        → (y : Heat) × (cond b (Some x) (find (λ h. eqb h.chain n) xs) ≡ Some y)
    by true e lower = (x, refl)
    by false e lower = let apart : x.chain ≢ n = λ same. let h = rw same at e in grind (arith, h) in lower (omega (arith, apart, is))

module _ (xs : List Heat) (h : Heat) where
  longest_taken : longest xs < h.chain → longest (xs ++ h ∷ []) ≡ h.chain
  longest_taken lt = let push = longest_push xs h in omega (arith, push, lt)

  longest_kept : h.chain ≤ longest xs → longest (xs ++ h ∷ []) ≡ longest xs
  longest_kept le = let push = longest_push xs h in omega (arith, push, le)

  leads : longest xs < h.chain → leading (xs ++ h ∷ []) ≡ Some h
  leads lt =
      let some : eqb h.chain 0 ≡ false = grind (arith, lt) in
      let itself : eqb h.chain h.chain ≡ true = grind arith in
      let found : find (λ g. eqb g.chain h.chain) (xs ++ h ∷ []) ≡ Some h =
      find-append (λ g. eqb g.chain h.chain) xs (h ∷ []) ∙ rw (above xs h.chain lt, itself) refl in
      rw (longest_taken lt, some) found

  stays : h.chain ≤ longest xs → leading (xs ++ h ∷ []) ≡ leading xs
  stays le = by (longest xs) refl (longest_kept le)
    where
      by : (n : ℕ) → longest xs ≡ n → longest (xs ++ h ∷ []) ≡ longest xs → leading (xs ++ h ∷ []) ≡ leading xs
      by zero e kept = rw (kept, e) refl
      by (suc n) e kept =
          let y = reached xs (suc n) (omega arith) (sym e) in
          let found : find (λ g. eqb g.chain (suc n)) (xs ++ h ∷ []) ≡ find (λ g. eqb g.chain (suc n)) xs =
          find-append (λ g. eqb g.chain (suc n)) xs (h ∷ []) ∙ rw y.1 refl in
          let some : eqb (suc n) 0 ≡ false = grind arith in
          rw (kept, e, some) found

module _ (xs : List Heat) (i : ℕ) (h : Heat) (inside : i < length xs) (is : h ≡ get_or xs i h) where
  one_more : take (i + 1) xs ≡ take i xs ++ h ∷ []
  one_more = take_more xs i h inside ∙ ap (λ (g : Heat). take i xs ++ g ∷ []) (sym is)

  pub taken : longest (take i xs) < h.chain → (longest (take (i + 1) xs) ≡ h.chain) × (leading (take (i + 1) xs) ≡ Some h)
  taken lt = rw one_more (longest_taken (take i xs) h lt, leads (take i xs) h lt)

  pub kept : h.chain ≤ longest (take i xs) → (longest (take (i + 1) xs) ≡ longest (take i xs)) × (leading (take (i + 1) xs) ≡ leading (take i xs))
  kept le = rw one_more (longest_kept (take i xs) h le, stays (take i xs) h le)
