-- The longest chain of a log, found part by part.
use Rattle.std.proofs.Common.{◌≡◌, ◌∙◌, ℕ, ◌+◌, ◌<◌, ◌≤◌, ◌⊎◌, List, [], ◌∷◌, length, inl, inr, ⊎_elim, refl, sym, ap, subst, arith}
use Rattle.std.proofs.lemmas.Bool.{cases_lt}
use Rattle.std.proofs.lemmas.List.{length-map}
use Rattle.bohm_types.specs.Txn.{Txn}
use Rattle.bohm_place.specs.Chains.{greatest}
use Rattle.bohm_place.specs.Cuttings.{Cutting, first_at, txns_at}
use Rattle.bohm_explain.specs.Chains.{IsChainOf}
use Rattle.bohm_explain.specs.Figures.{depths}
use Rattle.bohm_explain.specs.Longest.{IsLonger, IsLongestOf}
use Rattle.bohm_explain.specs.Printed.{IsLongestChain, IsPlacedChain}
use Rattle.bohm_explain.proofs.Drawn.{depth_is}

module _ (c : Cutting) where
  -- an empty list or a chain of the log, at least as long as any chain of the first n parts
  pub record IsLongestBelow (n : ℕ) (places : List ℕ) : Type 0 where
    pub placed : (places ≡ []) ⊎ IsPlacedChain c places
    pub none_longer : (i : ℕ) → i < n → greatest (depths (txns_at c i)) ≤ length places

  pub none_yet : IsLongestBelow 0 []
  none_yet = record { placed = inl refl; none_longer = λ i low. absurd (omega (arith, low)) }

  module _ (i : ℕ) (there : i < length c.sizes) (old new : List ℕ) (so_far : IsLongestBelow i old) where
    kept : (new ≡ old) × (greatest (depths (txns_at c i)) ≤ length old) → IsLongestBelow (i + 1) new
    kept (same, low) = subst (IsLongestBelow (i + 1)) (sym same) (record {
      placed = so_far.placed;
      none_longer = λ j few. ⊎_elim (λ before. so_far.none_longer j before)
          (λ last. let is : i ≡ j = omega (arith, few, last) in subst (λ (k : ℕ). greatest (depths (txns_at c k)) ≤ length old) is low) (cases_lt j i);
    })

    taken : IsLongestOf (first_at c i) (txns_at c i) new × (length old < length new) → IsLongestBelow (i + 1) new
    taken (of, more) = record {
      placed = inr (record { index = i; there = there; chain = of.chain; is = of.is; placed = of.placed });
      none_longer = λ j few. ⊎_elim (λ before. let h = so_far.none_longer j before in omega (arith, h, more))
          (λ last. let is : i ≡ j = omega (arith, few, last) in let long = of.long in
          subst (λ (k : ℕ). greatest (depths (txns_at c k)) ≤ length new) is (omega (arith, long))) (cases_lt j i);
    }

    pub one_more : (txns : List Txn) → txns ≡ txns_at c i → IsLonger (first_at c i) txns old new → IsLongestBelow (i + 1) new
    one_more txns is longer = ⊎_elim kept taken (subst (λ (b : List Txn). IsLonger (first_at c i) b old new) is longer)

  -- a part that has a chain has a transaction
  some : (txns : List Txn) (chain : List ℕ) → IsChainOf txns chain → 0 < length txns
  some txns [] is = absurd is
  some txns (p ∷ []) low = omega (arith, low)
  some txns (p ∷ q ∷ rest) is = let low = is.0 in omega (arith, low)

  -- a longest chain of all parts is a longest chain of the log
  pub of_all : (n : ℕ) (places : List ℕ) → n ≡ length c.sizes → IsLongestBelow n places → IsLongestChain c places
  of_all n places last h = record {
    placed = h.placed;
    none_longer = λ other pc.
        let part = txns_at c pc.index in
        let most = (depth_is part (some part pc.chain pc.is)).none_above pc.chain pc.is in
        let there = pc.there in
        let low = h.none_longer pc.index (omega (arith, there, last)) in
        let same : length other ≡ length pc.chain = ap length pc.placed ∙ length-map pc.chain (λ p. first_at c pc.index + p) in
        omega (arith, most, low, same);
  }
