-- The source of an access in a right plan is the newest earlier position that writes the key.
use Rattle.std.proofs.Common.{◌≡◌, ℕ, zero, suc, ◌+◌, ◌-◌, ◌<◌, ◌≤◌, List, [], ◌∷◌, ◌++◌, length, append_assoc, Bool, true, false}
use Rattle.std.proofs.Common.{cond, Option, Some, None, slice_get, unwrap_or, option_map, refl, sym, subst, ap, ◌∙◌, ⊎_elim, arith}
use Rattle.std.proofs.lemmas.Bool.{cases_lt}
use Rattle.bohm_types.specs.Txn.{Txn}
use Rattle.bohm_types.specs.Keys.{is_among}
use Rattle.bohm_place.specs.declared.access.Source.{Source}
use Rattle.bohm_place.specs.declared.access.Source.TheVariants.{Before, Within}
use Rattle.std.specs.List.{filter_map}
use Rattle.bohm_place.specs.declared.access.Access.{Access}
use Rattle.bohm_place.specs.declared.declared_set.DeclaredSet.{DeclaredSet}
use Rattle.bohm_place.specs.declared.declared_set.DeclaredSet.TheVariants.{Reads, Writes}
use Rattle.bohm_place.specs.Plans.{Planned, IsRightPlan, keys_in, planned_in}
use Rattle.bohm_place.specs.Writers as writers
use Rattle.bohm_place.specs.Writers.{IsNewest}
use Rattle.bohm_explain.specs.declared.arrow.Arrow.{Arrow}
use Rattle.bohm_explain.specs.Wanted.{writes_at, newest_before, place_of, arrow_of}

module _ (txns : List Txn) (first : ℕ) (k : List ℕ) where
  writes_there : (p : ℕ) (o : Option Txn) → slice_get txns p ≡ o → unwrap_or (option_map (λ t. is_among t.writes k) o) false ≡ true
      → writers.Writes first txns k (first + p)
  writes_there p None e h = absurd cc
  writes_there p (Some t) e h = record { txn = t; there = record { place = p; timestamp = refl; is_at = e }; declared = h }

  writes : (p : ℕ) → writes_at txns k p ≡ true → writers.Writes first txns k (first + p)
  writes p h = writes_there p (slice_get txns p) refl h

  written : (p : ℕ) → writers.Writes first txns k (first + p) → writes_at txns k p ≡ true
  written p w =
      let same : p ≡ w.there.place = omega (arith, w.there.timestamp) in
      rw (same, w.there.is_at) w.declared

  pub newest_is : (p : ℕ) (s : Source) → IsNewest first txns k (first + p) s → newest_before txns k p ≡ place_of first s
  newest_is zero Before newest = refl
  newest_is zero (Within u) newest = absurd (omega (arith, newest.below, newest.holds.there.timestamp))
  newest_is (suc p) s newest = by (writes_at txns k p) refl s newest (newest_is p)
    where
      opened : (b : Bool) (s : Source) → writes_at txns k p ≡ b → cond b (Some p) (newest_before txns k p) ≡ place_of first s
          → newest_before txns k (suc p) ≡ place_of first s
      opened b s e h = subst (λ (c : Bool). cond c (Some p) (newest_before txns k p) ≡ place_of first s) (sym e) h

      by : (b : Bool) → writes_at txns k p ≡ b → (s : Source) → IsNewest first txns k (first + suc p) s
          → ((r : Source) → IsNewest first txns k (first + p) r → newest_before txns k p ≡ place_of first r) → newest_before txns k (suc p) ≡ place_of first s
      by true e Before newest lower = absurd (newest (first + p) (omega arith) (writes p e))
      by true e (Within u) newest lower =
          let last : u ≡ first + p = ⊎_elim (λ below. absurd (newest.none_between (first + p) below (omega arith) (writes p e)))
          (λ above. omega (arith, above, newest.below)) (cases_lt u (first + p)) in
          let place : p ≡ u - first = omega (arith, last) in
          opened true (Within u) e (ap (λ x. Some x) place)
      by false e Before newest lower = opened false Before e (lower Before (λ v low. newest v (omega arith)))
      by false e (Within u) newest lower =
          let apart : ¬ (u ≡ first + p) = λ same. let w : writers.Writes first txns k (first + p) = rw (← same) newest.holds in
          let h = rw e at (written p w) in absurd cc in
          let below : u < first + p = omega (arith, apart, newest.below) in
          opened false (Within u) e (lower (Within u)
          (record { below = below; holds = newest.holds; none_between = λ v low high. newest.none_between v low (omega arith) }))

-- ---- the accesses of a right plan

pub right_source : (txns : List Txn) (p : Planned) (set : DeclaredSet) (to j : ℕ) (x : Txn) (k : List ℕ) (a : Access) → IsRightPlan txns p
    → slice_get txns to ≡ Some x → slice_get (keys_in set x) j ≡ Some k → slice_get (planned_in set p to) j ≡ Some a
    → IsNewest p.first txns k (p.first + to) a.source
right_source txns p Reads to j x k a right at_x at_k at_a = ((right.reads to x at_x).each j k a at_k at_a).newest
right_source txns p Writes to j x k a right at_x at_k at_a = ((right.writes to x at_x).each j k a at_k at_a).newest

pub paired : (txns : List Txn) (p : Planned) (set : DeclaredSet) (to : ℕ) (x : Txn) → IsRightPlan txns p → slice_get txns to ≡ Some x
    → length (keys_in set x) ≡ length (planned_in set p to)
paired txns p Reads to x right at_x = (right.reads to x at_x).paired
paired txns p Writes to x right at_x = (right.writes to x at_x).paired

pub behind_first : (txns : List Txn) (first t u : ℕ) (k : List ℕ) (s : Source) → IsNewest first txns k t s → s ≡ Within u → first ≤ u
behind_first txns first t u k Before newest is = absurd cc
behind_first txns first t u k (Within v) newest is = let same : v ≡ u = cc in omega (arith, same, newest.holds.there.timestamp)

-- ---- the arrows for some keys, with one more key

pub arrow_by : (txns : List Txn) (first p : ℕ) (k : List ℕ) (s : Source) → IsNewest first txns k (first + p) s
    → arrow_of txns p k ≡ option_map (λ f. record { from = f; to = p; key = k }) (place_of first s)
arrow_by txns first p k s newest = ap (λ o. option_map (λ f. record { from = f; to = p; key = k }) o) (newest_is txns first k p s newest)

module _ (txns : List Txn) (first p : ℕ) (k : List ℕ) (s : Source) (newest : IsNewest first txns k (first + p) s) (xs rest : List (List ℕ))
    (front : xs ≡ k ∷ rest) (out whole : List Arrow) (before : out ++ filter_map (arrow_of txns p) xs ≡ whole) where
  pub one_arrow : (u f : ℕ) (out' : List Arrow) → s ≡ Within u → f ≡ u - first → out' ≡ out ++ record { from = f; to = p; key = k } ∷ []
      → out' ++ filter_map (arrow_of txns p) rest ≡ whole
  one_arrow u f out' is place pushed =
      let found : arrow_of txns p k ≡ Some (record { from = f; to = p; key = k }) = arrow_by txns first p k s newest ∙ rw (is, place) refl in
      let was : out ++ filter_map (arrow_of txns p) (k ∷ rest) ≡ whole =
      subst (λ (ks : List (List ℕ)). out ++ filter_map (arrow_of txns p) ks ≡ whole) front before in
      rw (pushed, append_assoc) (rw found at was)

  pub no_arrow : s ≡ Before → out ++ filter_map (arrow_of txns p) rest ≡ whole
  no_arrow is =
      let none : arrow_of txns p k ≡ None = arrow_by txns first p k s newest ∙ rw is refl in
      let was : out ++ filter_map (arrow_of txns p) (k ∷ rest) ≡ whole =
      subst (λ (ks : List (List ℕ)). out ++ filter_map (arrow_of txns p) ks ≡ whole) front before in
      rw none at was
