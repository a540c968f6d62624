-- The printed longest chain is as long as the greatest depth.
use Rattle.std.proofs.Common.{◌≡◌, ◌∙◌, ℕ, zero, suc, ◌+◌, ◌<◌, ◌≤◌, List, [], ◌∷◌, ◌++◌, length, map, max, All, ⊎_elim, refl, ap, arith}
use Rattle.std.specs.List.{sum}
use Rattle.std.proofs.lemmas.Bool.{cases_lt}
use Rattle.std.proofs.lemmas.List.{length-map, map-append}
use Rattle.bohm_place.specs.Chains.{greatest}
use Rattle.bohm_place.specs.Cuttings.{Cutting, first_at, txns_at}
use Rattle.bohm_read_ahead.specs.declared.checked_chunk.Sharing.{Sharing}
use Rattle.bohm_explain.specs.declared.parts.Part.{Part}
use Rattle.bohm_explain.specs.Figures.{depths}
use Rattle.bohm_explain.specs.Parts.{part_at, parts_below, parts_in}
use Rattle.bohm_explain.specs.Printed.{IsLongestChain}
use Rattle.bohm_explain.proofs.Cutting.{inside}
use Rattle.bohm_explain.proofs.Drawn.{depth_is}

last_greatest : (xs : List ℕ) (y : ℕ) → greatest (xs ++ y ∷ []) ≡ max (greatest xs) y
last_greatest [] y = omega arith
last_greatest (x ∷ xs) y = omega (arith, last_greatest xs y)

module _ (c : Cutting) (ways : List Sharing) where
  abbrev deep : ℕ → ℕ
  deep i = greatest (depths (txns_at c i))

  abbrev deepest_below : ℕ → ℕ
  deepest_below n = greatest (map (λ (p : Part). p.figures.depth) (parts_below c ways n))

  one_more : (n : ℕ) → deepest_below (suc n) ≡ max (deepest_below n) (deep n)
  one_more n = ap greatest (map-append (λ (p : Part). p.figures.depth) (parts_below c ways n) (part_at c ways n ∷ []))
      ∙ last_greatest (map (λ (p : Part). p.figures.depth) (parts_below c ways n)) (deep n)

  none_deeper : (m n : ℕ) → ((i : ℕ) → i < n → deep i ≤ m) → deepest_below n ≤ m
  none_deeper m zero each = omega arith
  none_deeper m (suc n) each =
      let before = none_deeper m n (λ i low. each i (omega (arith, low))) in
      let last = each n (omega arith) in
      omega (arith, one_more n, before, last)

  as_deep : (n i : ℕ) → i < n → deep i ≤ deepest_below n
  as_deep zero i low = absurd (omega (arith, low))
  as_deep (suc n) i low = ⊎_elim
      (λ before. let h = as_deep n i before in omega (arith, one_more n, h))
      (λ last. let is : i ≡ n = omega (arith, low, last) in let same : deep i ≡ deep n = ap deep is in omega (arith, one_more n, same))
      (cases_lt i n)

  pub as_long : (places : List ℕ) → All (λ n. 1 ≤ n) c.sizes → sum c.sizes ≡ length c.log → IsLongestChain c places
      → length places ≡ greatest (map (λ (p : Part). p.figures.depth) (parts_in c ways))
  as_long places each total h =
      let n = length c.sizes in
      let some : (i : ℕ) → i < n → 0 < length (txns_at c i) = λ i low. let one = each i 0 low in omega (arith, one, inside c i total low) in
      let most : deepest_below n ≤ length places = none_deeper (length places) n (λ i there.
      let one = depth_is (txns_at c i) (some i there) in
      let shift : ℕ → ℕ = λ p. first_at c i + p in
      let low = h.none_longer (map shift one.chain) (record { index = i; there = there; chain = one.chain; is = one.is; placed = refl }) in
      omega (arith, low, length-map one.chain shift, one.measures)) in
      let least : length places ≤ deepest_below n = ⊎_elim
      (λ none. omega (arith, ap length none))
      (λ pc. let one = depth_is (txns_at c pc.index) (some pc.index pc.there) in
      let low = one.none_above pc.chain pc.is in
      let long = ap length pc.placed in
      omega (arith, low, long, length-map pc.chain (λ p. first_at c pc.index + p), as_deep n pc.index pc.there))
      h.placed in
      omega (arith, most, least)
