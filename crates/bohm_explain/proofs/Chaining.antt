-- The weights in `heaviest_to` and `heaviest_from` are weights of chains, and no chain is heavier.
use Rattle.std.proofs.Common.{◌≡◌, ℕ, zero, suc, ◌+◌, ◌<◌, ◌≤◌, ◌⊎◌, replicate, List, [], ◌∷◌, ◌++◌, length}
use Rattle.std.proofs.Common.{slice_index, slice_index_or, sum_by, All, Contains, inl, inr, ⊎_elim, refl, sym, ap, subst, ◌∙◌, arith}
use Rattle.std.proofs.lemmas.Bool.{cases_eq, cases_lt}
use Rattle.std.proofs.lemmas.List.{get_or-replicate}
use Rattle.std.proofs.lemmas.List.Sums.{sum_by-append, sum_by-cons}
use Rattle.bohm_place.specs.Chains.{greatest}
use Rattle.bohm_explain.specs.declared.arrow.Arrow.{Arrow}
use Rattle.bohm_explain.specs.Heaviest.{IsInside, AreRising, heaviest_from, heaviest_to}
use Rattle.bohm_explain.specs.Chains.{IsWantedBy, IsChainFrom, IsChain, BeginsAt, last_of, EndsAt, LeadsOn, weight_of, IsGreatest}
use Rattle.bohm_explain.proofs.Greatest.{picked, taken, passed}
use Rattle.bohm_explain.proofs.Rules.{paired_to, rule_to, rule_from}
use Rattle.bohm_txn.proofs.ForCallers.{contains_head, contains_tail}

-- ---- the greatest number at the other ends of a position's arrows

module _ (here there : Arrow → ℕ) (number : ℕ → ℕ) (p : ℕ) where
  -- n is 0, or the number at the end `there` of an arrow whose end `here` is p
  abbrev Reaches : List Arrow → ℕ → Type 0
  Reaches arrows n = (n ≡ 0) ⊎ ((a : Arrow) × Contains arrows a × (here a ≡ p) × (number (there a) ≡ n))

  reaches_further : (a : Arrow) (rest : List Arrow) (n : ℕ) → Reaches rest n → Reaches (a ∷ rest) n
  reaches_further a rest n (inl none) = inl none
  reaches_further a rest n (inr (b, has, is, same)) = inr (b, contains_tail a b rest has, is, same)

  more : (a : Arrow) (rest : List Arrow) → here a ≡ p → Reaches rest (picked here there number rest p)
      → Reaches (a ∷ rest) (picked here there number (a ∷ rest) p)
  more a rest is before = ⊎_elim
      (λ low. let same : picked here there number (a ∷ rest) p ≡ picked here there number rest p = taken here there number a rest p is ∙ omega (arith, low) in
      subst (Reaches (a ∷ rest)) (sym same) (reaches_further a rest _ before))
      (λ high. let same : number (there a) ≡ picked here there number (a ∷ rest) p = omega (arith, high, taken here there number a rest p is) in
      inr (a, contains_head a rest, is, same))
      (cases_lt (number (there a)) (picked here there number rest p))

  pub reaches : (arrows : List Arrow) → Reaches arrows (picked here there number arrows p)
  reaches [] = inl refl
  reaches (a ∷ rest) = ⊎_elim
      (λ is. more a rest is (reaches rest))
      (λ isnt. subst (Reaches (a ∷ rest)) (sym (passed here there number a rest p isnt)) (reaches_further a rest _ (reaches rest)))
      (cases_eq (here a) p)

  no_less : (a : Arrow) (rest : List Arrow) → picked here there number rest p ≤ picked here there number (a ∷ rest) p
  no_less a rest = ⊎_elim
      (λ is. omega (arith, taken here there number a rest p is))
      (λ isnt. omega (arith, passed here there number a rest p isnt))
      (cases_eq (here a) p)

  pub reached : (arrows : List Arrow) (a : Arrow) (k : ℕ) → k < length arrows → slice_index_or arrows k a ≡ a → here a ≡ p
      → number (there a) ≤ picked here there number arrows p
  reached [] a k low is at = absurd (omega arith)
  reached (b ∷ rest) a zero low is at = let same : b ≡ a = is in let e : here b ≡ p = ap here same ∙ at in omega (
    arith,
    taken here there number b rest p e,
    ap (λ x. number (there x)) same,
  )
  reached (b ∷ rest) a (suc k) low is at = let before = reached rest a k (omega arith) is at in omega (arith, before, no_less b rest)

-- ---- chains that are extended, joined and split

module _ (n : ℕ) (arrows : List Arrow) where
  -- a position that wants a version of a chain's last position extends the chain
  pub longer : (p : ℕ) (rest : List ℕ) (q : ℕ) → IsChainFrom n arrows p rest → IsWantedBy arrows (last_of p rest) q → q < n
      → IsChainFrom n arrows p (rest ++ q ∷ [])
  longer p [] q inside leads low = (inside, leads, low)
  longer p (r ∷ rest) q chain leads low = (chain.0, chain.1, longer r rest q chain.2 leads low)

  -- two chains make one if the second's first position wants a version of the first's last position
  pub linked : (p : ℕ) (rest : List ℕ) (q : ℕ) (after : List ℕ) → IsChainFrom n arrows p rest → IsWantedBy arrows (last_of p rest) q
      → IsChainFrom n arrows q after → IsChainFrom n arrows p (rest ++ q ∷ after)
  linked p [] q after inside leads more = (inside, leads, more)
  linked p (r ∷ rest) q after chain leads more = (chain.0, chain.1, linked r rest q after chain.2 leads more)

  -- the two parts of a split chain are chains
  pub parted : (p : ℕ) (rest : List ℕ) (q : ℕ) (after : List ℕ) → IsChainFrom n arrows p (rest ++ q ∷ after)
      → IsChainFrom n arrows p rest × IsChainFrom n arrows q after
  parted p [] q after chain = (chain.0, chain.2)
  parted p (r ∷ rest) q after chain = let (front, behind) = parted r rest q after chain.2 in ((chain.0, chain.1, front), behind)

last_more : (p : ℕ) (rest : List ℕ) (q : ℕ) → last_of p (rest ++ q ∷ []) ≡ q
last_more p [] q = refl
last_more p (r ∷ rest) q = last_more r rest q

-- ---- the greatest number of a list

attained : (xs : List ℕ) → 0 < length xs → (k : ℕ) × (k < length xs) × (slice_index xs k ≡ greatest xs)
attained [] some = absurd (omega arith)
attained (x ∷ []) some = (zero, omega arith, omega arith)
attained (x ∷ y ∷ ys) some =
    let (k, low, same) = attained (y ∷ ys) (omega arith) in
    ⊎_elim (λ less. (suc k, omega (arith, low), omega (arith, less, same))) (λ more. (zero, omega arith, omega (arith, more))) (cases_lt x (greatest (y ∷ ys)))

at_most : (xs : List ℕ) (k : ℕ) → slice_index xs k ≤ greatest xs
at_most [] k = omega arith
at_most (x ∷ xs) zero = omega arith
at_most (x ∷ xs) (suc k) = let rest = at_most xs k in omega (arith, rest)

-- ---- the heaviest chains over rising arrows

module _ (weights : List ℕ) (n : ℕ) (paired : length weights ≡ n) (arrows : List Arrow) (rises : AreRising 0 arrows) (inside : All (IsInside n) arrows) where
  abbrev own : ℕ → ℕ
  own p = slice_index weights p

  abbrev to : ℕ → ℕ
  to p = slice_index (heaviest_to weights arrows) p

  abbrev from : ℕ → ℕ
  from p = slice_index (heaviest_from weights arrows) p

  upwards : (least : ℕ) (as' : List Arrow) (a : Arrow) (k : ℕ) → k < length as' → slice_index_or as' k a ≡ a → AreRising least as' → a.from < a.to
  upwards least [] a k low is r = absurd (omega arith)
  upwards least (b ∷ rest) a zero low is r = let up : b.from < b.to = r.1 in let same : b ≡ a = is in subst (λ (c : Arrow). c.from < c.to) same up
  upwards least (b ∷ rest) a (suc k) low is r = upwards b.to rest a k (omega arith) is r.2

  up : (a : Arrow) → Contains arrows a → a.from < a.to
  up a (k, low, is) = upwards 0 arrows a k low is rises

  within : (a : Arrow) → Contains arrows a → IsInside n a
  within a (k, low, is) = subst (IsInside n) is (inside k a low)

  leads : (a : Arrow) → Contains arrows a → IsWantedBy arrows a.from a.to
  leads a has = (a, has, refl, refl)

  -- ---- chains that end at a position

  least_to : (p q : ℕ) → IsWantedBy arrows p q → to p + own q ≤ to q
  least_to p q (a, (k, low, is), from_p, to_q) =
      let here : q < n = let i = within a (k, low, is) in omega (arith, i.1, to_q) in
      let rule = rule_to weights arrows q rises (omega (arith, paired, here)) in
      let other = reached (λ x. x.to) (λ x. x.from) to q arrows a k low is to_q in
      let same : to a.from ≡ to p = ap to from_p in
      omega (arith, rule, other, same)

  own_to : (p : ℕ) → p < n → own p ≤ to p
  own_to p low = let rule = rule_to weights arrows p rises (omega (arith, paired, low)) in omega (arith, rule)

  -- if m is at most `to p`, then m plus the weights after p is at most `to` of the chain's last position
  behind_to : (p : ℕ) (rest : List ℕ) (m : ℕ) → IsChainFrom n arrows p rest → m ≤ to p → m + sum_by own rest ≤ to (last_of p rest)
  behind_to p [] m chain low = omega (arith, low)
  behind_to p (q ∷ rest) m chain low =
      let step = least_to p q chain.1 in
      let later = behind_to q rest (m + own q) chain.2 (omega (arith, step, low)) in
      omega (arith, later, sum_by-cons own q rest)

  starts : (p : ℕ) (rest : List ℕ) → IsChainFrom n arrows p rest → p < n
  starts p [] chain = chain
  starts p (q ∷ rest) chain = chain.0

  pub none_to : (p : ℕ) (chain : List ℕ) → IsChain n arrows chain × EndsAt p chain → weight_of weights chain ≤ to p
  none_to p [] (is, ends) = absurd is
  none_to p (q ∷ rest) (is, ends) =
      let most = behind_to q rest (own q) is (own_to q (starts q rest is)) in
      let same : to (last_of q rest) ≡ to p = ap to ends in
      omega (arith, most, same, sum_by-cons own q rest)

  record To (p : ℕ) : Type 0 where
    first : ℕ
    rest : List ℕ
    chain : IsChainFrom n arrows first rest
    ends : last_of first rest ≡ p
    weighs : own first + sum_by own rest ≡ to p

  to_one_more : (a : Arrow) → Contains arrows a → to a.to ≡ own a.to + to a.from → To a.from → To a.to
  to_one_more a has sum t = record {
    first = t.first;
    rest = t.rest ++ a.to ∷ [];
    chain = longer n arrows t.first t.rest a.to t.chain (subst (λ p. IsWantedBy arrows p a.to) (sym t.ends) (leads a has)) (within a has).1;
    ends = last_more t.first t.rest a.to;
    weighs = let joined = sum_by-append own t.rest (a.to ∷ []) in let last : sum_by own (a.to ∷ []) ≡ own a.to = omega arith in let w =
        t.weighs in omega (arith, joined, last, w, sum);
  }

  to_below : (fuel p : ℕ) → p < fuel → p < n → To p
  to_below zero p few low = absurd (omega arith)
  to_below (suc fuel) p few low =
      let rule = rule_to weights arrows p rises (omega (arith, paired, low)) in
      elim (reaches (λ x. x.to) (λ x. x.from) to p arrows) as (λ _. To p) [
        | inl none ↦ record { first = p; rest = []; chain = low; ends = refl; weighs = omega (arith, rule, none) }
        | inr found ↦
            let a = found.0 in let has = found.1 in let at : a.to ≡ p = found.2 in let same = found.3 in
            let lower = up a has in
            let before = to_below fuel a.from (omega (arith, lower, at, few)) (within a has).0 in
            let there : to a.to ≡ to p = ap to at in let here : own a.to ≡ own p = ap own at in
            subst To at (to_one_more a has (omega (arith, rule, same, there, here)) before)
      ]

  pub chain_to : (p : ℕ) → p < n → IsGreatest (weight_of weights) (λ c. IsChain n arrows c × EndsAt p c) (to p)
  chain_to p low =
      let t = to_below (suc p) p (omega arith) low in
      record { chain = t.first ∷ t.rest; is = (t.chain, t.ends); measures = sum_by-cons own t.first t.rest ∙ t.weighs; none_above = none_to p }

  -- ---- chains that begin at a position

  least_from : (p q : ℕ) → IsWantedBy arrows p q → own p + from q ≤ from p
  least_from p q (a, (k, low, is), from_p, to_q) =
      let here : p < n = let i = within a (k, low, is) in omega (arith, i.0, from_p) in
      let rule = rule_from weights arrows p rises (omega (arith, paired, here)) in
      let other = reached (λ x. x.from) (λ x. x.to) from p arrows a k low is from_p in
      let same : from a.to ≡ from q = ap from to_q in
      omega (arith, rule, other, same)

  behind_from : (p : ℕ) (rest : List ℕ) → IsChainFrom n arrows p rest → own p + sum_by own rest ≤ from p
  behind_from p [] low = let rule = rule_from weights arrows p rises (omega (arith, paired, low)) in omega (arith, rule)
  behind_from p (q ∷ rest) chain = let step = least_from p q chain.1 in let later = behind_from q rest chain.2 in omega (
    arith,
    step,
    later,
    sum_by-cons own q rest,
  )

  pub none_from : (p : ℕ) (chain : List ℕ) → IsChain n arrows chain × BeginsAt p chain → weight_of weights chain ≤ from p
  none_from p [] (is, begins) = absurd is
  none_from p (q ∷ rest) (is, begins) = let most = behind_from q rest is in let same : from q ≡ from p = ap from begins in omega (
    arith,
    most,
    same,
    sum_by-cons own q rest,
  )

  record From (p : ℕ) : Type 0 where
    rest : List ℕ
    chain : IsChainFrom n arrows p rest
    weighs : own p + sum_by own rest ≡ from p

  from_one_more : (p : ℕ) (a : Arrow) → Contains arrows a → a.from ≡ p → from p ≡ own p + from a.to → p < n → From a.to → From p
  from_one_more p a has at sum low f = record {
    rest = a.to ∷ f.rest;
    chain = (low, (a, has, at, refl), f.chain);
    weighs = let w = f.weighs in omega (arith, w, sum, sum_by-cons own a.to f.rest);
  }

  from_above : (fuel p : ℕ) → n < p + fuel → p < n → From p
  from_above zero p few low = absurd (omega (arith, few, low))
  from_above (suc fuel) p few low =
      let rule = rule_from weights arrows p rises (omega (arith, paired, low)) in
      elim (reaches (λ x. x.from) (λ x. x.to) from p arrows) as (λ _. From p) [
        | inl none ↦ record { rest = []; chain = low; weighs = omega (arith, rule, none) }
        | inr found ↦
            let a = found.0 in let has = found.1 in let at : a.from ≡ p = found.2 in let same = found.3 in
            let higher = up a has in
            let later = from_above fuel a.to (omega (arith, higher, at, few)) (within a has).1 in
            from_one_more p a has at (omega (arith, rule, same)) low later
      ]

  -- ---- chains through an arrow

  pub none_by : (p q : ℕ) (chain : List ℕ) → IsChain n arrows chain × LeadsOn p q chain → weight_of weights chain ≤ to p + from q
  none_by p q chain (is, leads_on) =
      split leads_on.before leads_on.after leads_on.to leads_on.from (subst (IsChain n arrows) leads_on.parts is) (ap (weight_of weights) leads_on.parts)
    where
      split : (before after : List ℕ) → EndsAt p before → BeginsAt q after → IsChain n arrows (before ++ after)
          → weight_of weights chain ≡ weight_of weights (before ++ after) → weight_of weights chain ≤ to p + from q
      split [] after ends begins is same = absurd ends
      split (x ∷ rest) [] ends begins is same = absurd begins
      split (x ∷ rest) (y ∷ after) ends begins is same =
          let (front_is, behind_is) = parted n arrows x rest y after is in
          let left = none_to p (x ∷ rest) (front_is, ends) in
          let right = none_from q (y ∷ after) (behind_is, begins) in
          let joined = sum_by-append own (x ∷ rest) (y ∷ after) in
          omega (arith, left, right, joined, same)

  pub chain_by : (a : Arrow) → Contains arrows a → IsGreatest (weight_of weights) (λ c. IsChain n arrows c × LeadsOn a.from a.to c) (to a.from + from a.to)
  chain_by a has =
      let t = to_below (suc a.from) a.from (omega arith) (within a has).0 in
      let f = from_above (suc n) a.to (omega arith) (within a has).1 in
      record {
        chain = (t.first ∷ t.rest) ++ (a.to ∷ f.rest);
        is = (
          linked n arrows t.first t.rest a.to f.rest t.chain (subst (λ p. IsWantedBy arrows p a.to) (sym t.ends) (leads a has)) f.chain,
          record { before = t.first ∷ t.rest; after = a.to ∷ f.rest; parts = refl; to = t.ends; from = refl },
        );
        measures = let joined = sum_by-append own (t.first ∷ t.rest) (a.to ∷ f.rest) in let l = t.weighs in let r = f.weighs in
            omega (arith, joined, l, r, sum_by-cons own t.first t.rest, sum_by-cons own a.to f.rest);
        none_above = none_by a.from a.to;
      }

  -- ---- the heaviest of all chains

  pub chain_of_all : 0 < n → IsGreatest (weight_of weights) (IsChain n arrows) (greatest (heaviest_to weights arrows))
  chain_of_all some =
      let (q, low, same) = attained (heaviest_to weights arrows) (omega (arith, paired_to weights arrows, paired, some)) in
      let t = to_below (suc q) q (omega arith) (omega (arith, low, paired_to weights arrows, paired)) in
      record {
        chain = t.first ∷ t.rest;
        is = t.chain;
        measures = (let w = t.weighs in omega (
          arith,
          w,
          same,
          sum_by-cons own t.first t.rest,
        ));
        none_above = none;
      }
    where
      none : (chain : List ℕ) → IsChain n arrows chain → weight_of weights chain ≤ greatest (heaviest_to weights arrows)
      none [] is = absurd is
      none (q ∷ rest) is =
          let low = none_to (last_of q rest) (q ∷ rest) (is, refl) in
          let most = at_most (heaviest_to weights arrows) (last_of q rest) in
          omega (arith, low, most)

-- ---- chains whose positions weigh 1 each

alike_at : (n p : ℕ) → p < n → slice_index (replicate n 1) p ≡ 1
alike_at n p low = get_or-replicate {A = ℕ} n p 1 0 low

counted : (n : ℕ) (arrows : List Arrow) (p : ℕ) (rest : List ℕ) → IsChainFrom n arrows p rest → weight_of (replicate n 1) (p ∷ rest) ≡ length (p ∷ rest)
counted n arrows p [] low = let one = alike_at n p low in omega (arith, one, sum_by-cons (slice_index (replicate n 1)) p [])
counted n arrows p (q ∷ rest) chain = let one = alike_at n p chain.0 in let later = counted n arrows q rest chain.2 in omega (
  arith,
  one,
  later,
  sum_by-cons (slice_index (replicate n 1)) p (q ∷ rest),
)

pub count_of : (n : ℕ) (arrows : List Arrow) (chain : List ℕ) → IsChain n arrows chain → weight_of (replicate n 1) chain ≡ length chain
count_of n arrows [] is = absurd is
count_of n arrows (p ∷ rest) is = counted n arrows p rest is

pub measured : (f g : List ℕ → ℕ) (Is : List ℕ → Type 0) (m : ℕ) → ((c : List ℕ) → Is c → f c ≡ g c) → IsGreatest f Is m → IsGreatest g Is m
measured f g Is m same h = record {
  chain = h.chain;
  is = h.is;
  measures = sym (same h.chain h.is) ∙ h.measures;
  none_above = λ other is. let low = h.none_above other is in omega (arith, low, same other is);
}
