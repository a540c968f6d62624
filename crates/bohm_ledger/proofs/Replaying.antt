-- Opening a ledger's rows leads to the state after all its batches.
use Rattle.std.proofs.Common.{◌≡◌, ◌⊎◌, inl, inr, ℕ, zero, suc, ◌+◌, ◌<◌, ◌≤◌, true, false, ltb, List, [], ◌∷◌, length, take, refl, sym, ap, ◌∙◌, arith, subst}
use Rattle.std.proofs.lemmas.Bool.{le-ltb, lt-ltb}
use Rattle.sqlite_value.specs.Order.{Row}
use Rattle.bohm_ledger.specs.Rows.{batch_row}
use Rattle.bohm_ledger.specs.Rules.{State, Rules, AreRules, after, run, total}
use Rattle.bohm_ledger.specs.Ledgers.{AreKept}
use Rattle.bohm_ledger.specs.Loading.{passed, taken, loaded, next_place, Fit}

module _ {Defs : Type 0} (rules : Rules Defs) (meets : AreRules rules) (c : ℕ) where
  -- the rows lead from the one state to the other, and each fits
  pub record Leads (s t : State Defs) (rows : List Row) : Type 0 where
    pub there : loaded rules c s rows ≡ t
    pub fit : Fit rules c s rows

  taken_passed : (s : State Defs) (place first : ℕ) (b : List ℕ) → first + rules.size b ≤ c + 1 → taken rules c s (batch_row place first b) ≡ passed rules s b
  taken_passed s place first b low =
      let test : ltb (c + 1) (first + rules.size b) ≡ false = le-ltb (c + 1) (first + rules.size b) (omega arith) in
      rw test

  taken_run : (s : State Defs) (place first : ℕ) (b : List ℕ) → c + 1 < first + rules.size b → taken rules c s (batch_row place first b) ≡ after rules s b
  taken_run s place first b high =
      let test : ltb (c + 1) (first + rules.size b) ≡ true = lt-ltb (c + 1) (first + rules.size b) (omega arith) in
      rw test

  same_state : (s t : State Defs) → s.defs ≡ t.defs → s.look ≡ t.look → s.top ≡ t.top → s ≡ t
  same_state s t d l n =
      ap (λ x. record { defs = x; look = s.look; top = s.top }) d ∙ ap (λ x. record { defs = t.defs; look = x; top = s.top }) l
      ∙ ap (λ x. record { defs = t.defs; look = t.look; top = x }) n

  -- a row more at the front
  led_run : (place first : ℕ) (b : List ℕ) (s t : State Defs) (rest : List Row) → c + 1 < first + rules.size b → first ≡ s.top + 1
      → Leads (after rules s b) t rest → Leads s t (batch_row place first b ∷ rest)
  led_run place first b s t rest high next more = record {
    there = ap (λ x. loaded rules c x rest) (taken_run s place first b high) ∙ more.there;
    fit = (record { is = refl; next = inr next }, subst (λ x. Fit rules c x rest) (sym (taken_run s place first b high)) more.fit);
  }

  led_passed : (place first : ℕ) (b : List ℕ) (s t : State Defs) (rest : List Row) → first + rules.size b ≤ c + 1 → Leads (passed rules s b) t rest
      → Leads s t (batch_row place first b ∷ rest)
  led_passed place first b s t rest low more = record {
    there = ap (λ x. loaded rules c x rest) (taken_passed s place first b low) ∙ more.there;
    fit = (record { is = refl; next = inl low }, subst (λ x. Fit rules c x rest) (sym (taken_passed s place first b low)) more.fit);
  }

  running : (bs : List (List ℕ)) (place first : ℕ) (t : State Defs) (rows : List Row) → AreKept rules c place first bs rows → first ≡ t.top + 1
      → c + 1 < first → Leads t (run rules t bs) rows
  running [] place first t rows kept at high = subst (Leads t t) (sym kept) (record { there = refl; fit = tt })
  running (b ∷ bs) place first t rows (inl (rest, is, kept)) at high =
      subst (Leads t (run rules t (b ∷ bs))) (sym is)
      (led_run place first b t (run rules t (b ∷ bs)) rest (omega arith) at
      (running bs (place + 1) (first + rules.size b) (after rules t b) rest kept (omega arith) (omega arith)))
  running (b ∷ bs) place first t rows (inr (gone, kept)) at high = absurd (let low = gone.below in omega arith)

  pub record Meets (m first : ℕ) (bs : List (List ℕ)) (s t : State Defs) : Type 0 where
    pub defs : s.defs ≡ t.defs
    pub look : s.look ≡ (run rules t (take m bs)).look
    pub top : s.top ≡ c
    pub mark : c ≡ t.top + total rules (take m bs)
    pub at : first ≡ t.top + 1

  -- after a batch that has no transaction, behind the checkpoint
  after_still : (first : ℕ) (b : List ℕ) (bs : List (List ℕ)) (s t : State Defs) → rules.size b ≡ 0 → Meets 0 first (b ∷ bs) s t
      → Meets 0 (first + rules.size b) bs (passed rules s b) (after rules t b)
  after_still first b bs s t none h = record {
    defs = ap (λ d. rules.define d b) h.defs;
    look = h.look ∙ sym (meets.still t.defs t.look b none);
    top = h.top;
    mark = let m = h.mark in omega arith;
    at = let a = h.at in omega arith;
  }

  gone_still : (first : ℕ) (b : List ℕ) (bs : List (List ℕ)) (s t : State Defs) → rules.size b ≡ 0 → rules.is_plain b ≡ true
      → Meets 0 first (b ∷ bs) s t → Meets 0 (first + rules.size b) bs s (after rules t b)
  gone_still first b bs s t none plain h = record {
    defs = h.defs ∙ sym (meets.plain t.defs b plain);
    look = h.look ∙ sym (meets.still t.defs t.look b none);
    top = h.top;
    mark = let m = h.mark in omega arith;
    at = let a = h.at in omega arith;
  }

  after_passed : (m first : ℕ) (b : List ℕ) (bs : List (List ℕ)) (s t : State Defs) → Meets (suc m) first (b ∷ bs) s t
      → Meets m (first + rules.size b) bs (passed rules s b) (after rules t b)
  after_passed m first b bs s t h = record {
    defs = ap (λ d. rules.define d b) h.defs;
    look = h.look;
    top = h.top;
    mark = let m = h.mark in omega arith;
    at = let a = h.at in omega arith;
  }

  gone_passed : (m first : ℕ) (b : List ℕ) (bs : List (List ℕ)) (s t : State Defs) → rules.is_plain b ≡ true → Meets (suc m) first (b ∷ bs) s t
      → Meets m (first + rules.size b) bs s (after rules t b)
  gone_passed m first b bs s t plain h = record {
    defs = h.defs ∙ sym (meets.plain t.defs b plain);
    look = h.look;
    top = h.top;
    mark = let m = h.mark in omega arith;
    at = let a = h.at in omega arith;
  }

  met : (bs : List (List ℕ)) (first : ℕ) (s t : State Defs) → Meets 0 first bs s t → s ≡ t
  met bs first s t h = same_state s t h.defs h.look (let n = h.top in let m = h.mark in omega arith)

  pub passing : (bs : List (List ℕ)) (m place first : ℕ) (s t : State Defs) (rows : List Row) → AreKept rules c place first bs rows
      → Meets m first bs s t → Leads s (run rules t bs) rows
  passing [] zero place first s t rows kept h = subst (Leads s t) (sym kept) (record { there = met [] first s t h; fit = tt })
  passing [] (suc m) place first s t rows kept h =
      subst (Leads s t) (sym kept) (record { there = same_state s t h.defs h.look (let n = h.top in let m = h.mark in omega arith); fit = tt })
  passing (b ∷ bs) zero place first s t rows (inl (rest, is, kept)) h = elim (some_or_none (rules.size b)) [
    | inl none ↦ subst (Leads s (run rules t (b ∷ bs))) (sym is)
        (led_passed place first b s (run rules t (b ∷ bs)) rest (let m = h.mark in let a = h.at in omega arith)
        (passing bs 0 (place + 1) (first + rules.size b) (passed rules s b) (after rules t b) rest kept (after_still first b bs s t none h)))
    | inr some ↦ subst (λ x. Leads x (run rules t (b ∷ bs)) rows) (sym (met (b ∷ bs) first s t h)) (subst (Leads t (run rules t (b ∷ bs))) (sym is)
        (led_run place first b t (run rules t (b ∷ bs)) rest (let m = h.mark in let a = h.at in omega arith) h.at
        (running bs (place + 1) (first + rules.size b) (after rules t b) rest kept (let a = h.at in omega arith)
        (let m = h.mark in let a = h.at in omega arith))))
  ]
    where
      some_or_none : (n : ℕ) → (n ≡ 0) ⊎ (0 < n)
      some_or_none zero = inl refl
      some_or_none (suc n) = inr (omega arith)
  passing (b ∷ bs) zero place first s t rows (inr (gone, kept)) h =
      passing bs 0 (place + 1) (first + rules.size b) s (after rules t b) rows kept
      (gone_still first b bs s t (let m = h.mark in let a = h.at in let low = gone.below in omega arith) gone.undefining h)
  passing (b ∷ bs) (suc m) place first s t rows (inl (rest, is, kept)) h =
      subst (Leads s (run rules t (b ∷ bs))) (sym is)
      (led_passed place first b s (run rules t (b ∷ bs)) rest (let m = h.mark in let a = h.at in omega arith)
      (passing bs m (place + 1) (first + rules.size b) (passed rules s b) (after rules t b) rest kept (after_passed m first b bs s t h)))
  passing (b ∷ bs) (suc m) place first s t rows (inr (gone, kept)) h =
      passing bs m (place + 1) (first + rules.size b) s (after rules t b) rows kept (gone_passed m first b bs s t gone.undefining h)

  -- the place after the last batch
  pub placed : (bs : List (List ℕ)) (p place first : ℕ) (rows : List Row) → AreKept rules c place first bs rows → (0 < length bs) ⊎ (p ≡ place)
      → next_place p rows ≡ place + length bs
  placed [] p place first rows kept (inl some) = absurd (omega arith)
  placed [] p place first rows kept (inr same) = ap (next_place p) kept ∙ same ∙ omega arith
  placed (b ∷ bs) p place first rows (inl (rest, is, kept)) any =
      ap (next_place p) is ∙ placed bs (place + 1) (place + 1) (first + rules.size b) rest kept (inr refl) ∙ omega arith
  placed (b ∷ bs) p place first rows (inr (gone, kept)) any =
      placed bs p (place + 1) (first + rules.size b) rows kept (inl gone.followed) ∙ omega arith
