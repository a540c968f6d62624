-- An arrow leads from a position of a part to another exactly if the second wants the first's version on the board.
use Rattle.std.proofs.Common.{◌≡◌, ℕ, zero, suc, ◌+◌, ◌-◌, ◌<◌, List, [], ◌∷◌, ◌++◌, length, Bool, true, false, cond, Option, Some}
use Rattle.std.proofs.Common.{None, slice_get, unwrap_or, option_map, Contains, refl, sym, subst, ap, ◌∙◌, ⊎_elim, ◌⊎◌, inl, inr, arith}
use Rattle.std.specs.List.{filter_map, cons_option}
use Rattle.std.proofs.lemmas.Bool.{cases_lt}
use Rattle.std.proofs.lemmas.Option.{slice_get-get_or, slice_get_within}
use Rattle.std.proofs.lemmas.List.Elements.{Contains-append_left, Contains-append_right, Contains-append_cases}
use Rattle.bohm_types.specs.Txn.{Txn}
use Rattle.bohm_place.specs.declared.access.Access.{Access}
use Rattle.bohm_place.specs.declared.access.Source.{Source}
use Rattle.bohm_place.specs.declared.access.Source.TheVariants.{Before, Within}
use Rattle.bohm_place.specs.declared.declared_set.DeclaredSet.{DeclaredSet}
use Rattle.bohm_place.specs.declared.declared_set.DeclaredSet.TheVariants.{Reads, Writes}
use Rattle.bohm_place.specs.Plans.{Planned, IsRightPlan, keys_in, planned_in}
use Rattle.bohm_place.specs.Writers.{IsNewest}
use Rattle.bohm_board.specs.declared.batch.Batch.{Batch}
use Rattle.bohm_board.specs.Batches.{IsIn, Wants, plan_of, position, txns_of}
use Rattle.bohm_board.proofs.ForCallers.{contains_at}
use Rattle.bohm_explain.specs.declared.arrow.Arrow.{Arrow}
use Rattle.bohm_explain.specs.Chains.{IsWantedBy}
use Rattle.bohm_explain.specs.Wanted.{newest_before, place_of, arrow_of, arrows, arrows_at, arrows_below, arrows_in, is_sure_at, keys_at}
use Rattle.bohm_explain.proofs.Sources.{right_source, paired, behind_first, arrow_by}
use Rattle.bohm_txn.proofs.ForCallers.{there}

-- ---- the elements of a filtered list

Given : {X Y : Type 0} → (X → Option Y) → List X → Y → Type 0
Given {X} h xs y = (i : ℕ) × (x : X) × (slice_get xs i ≡ Some x) × (h x ≡ Some y)

in_front : {Y : Type 0} (o : Option Y) (y : Y) (rest : List Y) → o ≡ Some y → Contains (cons_option o rest) y
in_front o y rest e = subst (λ p. Contains (cons_option p rest) y) (sym e) (zero, omega arith, refl)

behind : {Y : Type 0} (o : Option Y) (y : Y) (rest : List Y) → Contains rest y → Contains (cons_option o rest) y
behind None y rest c = c
behind (Some z) y rest (k, low, is) = (suc k, omega (arith, low), is)

given : {X Y : Type 0} (h : X → Option Y) (xs : List X) (i : ℕ) (x : X) (y : Y) → slice_get xs i ≡ Some x → h x ≡ Some y → Contains (filter_map h xs) y
given h [] i x y at is = absurd cc
given h (w ∷ ws) zero x y at is = let same : w ≡ x = cc in in_front (h w) y (filter_map h ws) (ap h same ∙ is)
given h (w ∷ ws) (suc i) x y at is = behind (h w) y (filter_map h ws) (given h ws i x y at is)

giving : {X Y : Type 0} (h : X → Option Y) (xs : List X) (y : Y) → Contains (filter_map h xs) y → Given h xs y
unfolding Given
giving h [] y (k, low, is) = absurd (omega (arith, low))
giving {X} {Y} h (x ∷ ws) y c = by (h x) refl c (giving h ws y)
  where
    later : Given h ws y → Given h (x ∷ ws) y
    later (i, z, at, gives) = (suc i, z, at, gives)

    by : (o : Option Y) → h x ≡ o → Contains (cons_option o (filter_map h ws)) y → (Contains (filter_map h ws) y → Given h ws y) → Given h (x ∷ ws) y
    by None is c more = later (more c)
    by (Some w) is (zero, low, here) more = (zero, x, refl, is ∙ ap (λ v. Some v) here)
    by (Some w) is (suc k, low, here) more = later (more (k, omega (arith, low), here))

-- ---- the arrows to each position

at_below : (txns : List Txn) (r : Arrow) (p n : ℕ) → p < n → Contains (arrows_at txns p) r → Contains (arrows_below txns n) r
at_below txns r p zero low c = absurd (omega (arith, low))
at_below txns r p (suc n) low c =
    ⊎_elim (λ before. Contains-append_left (arrows_below txns n) (arrows_at txns n) r (at_below txns r p n before c))
    (λ last. let same : p ≡ n = omega (arith, low, last) in
    Contains-append_right (arrows_below txns n) (arrows_at txns n) r (subst (λ (m : ℕ). Contains (arrows_at txns m) r) same c)) (cases_lt p n)

below_at : (txns : List Txn) (r : Arrow) (n : ℕ) → Contains (arrows_below txns n) r → (p : ℕ) × (p < n) × Contains (arrows_at txns p) r
below_at txns r zero (k, low, is) = absurd (omega (arith, low))
below_at txns r (suc n) c =
    ⊎_elim (λ before. let (p, low, at) = below_at txns r n before in (p, omega (arith, low), at))
    (λ here. (n, omega arith, here)) (Contains-append_cases (arrows_below txns n) (arrows_at txns n) r c)

from_of : Option Arrow → ℕ
from_of o = unwrap_or (option_map (λ r. r.from) o) 0

to_of : Option Arrow → ℕ
to_of o = unwrap_or (option_map (λ r. r.to) o) 0

module _ (txns : List Txn) (plan : Planned) (right : IsRightPlan txns plan) (q : ℕ) (x : Txn) (at_x : slice_get txns q ≡ Some x) where
  keys : (set : DeclaredSet) → keys_at set txns q ≡ keys_in set x
  keys set = rw at_x refl

  to_arrow : (set : DeclaredSet) (u : ℕ) (a : Access) → a.source ≡ Within u → Contains (planned_in set plan q) a
      → IsWantedBy (arrows_in set txns q) (u - plan.first) q
  to_arrow set u a within (j, low, is) =
      let ks = keys_in set x in
      let at_a : slice_get (planned_in set plan q) j ≡ Some a = slice_get-get_or (planned_in set plan q) j a low ∙ ap (λ v. Some v) is in
      let long : j < length ks = omega (arith, paired txns plan set q x right at_x, low) in
      let (k, at_k) = there ks j long in
      let newest = right_source txns plan set q j x k a right at_x at_k at_a in
      let r : Arrow = record { from = u - plan.first; to = q; key = k } in
      let gives : arrow_of txns q k ≡ Some r = arrow_by txns plan.first q k a.source newest ∙ rw within refl in
      (r, subst (λ (l : List (List ℕ)). Contains (filter_map (arrow_of txns q) l) r) (sym (keys set)) (given (arrow_of txns q) ks j k r at_k gives), refl, refl)

  source_by : (k : List ℕ) (s : Source) (r : Arrow) (p : ℕ) → IsNewest plan.first txns k (plan.first + q) s
      → option_map (λ f. record { from = f; to = q; key = k }) (place_of plan.first s) ≡ Some r → r.from ≡ p → s ≡ Within (plan.first + p)
  unfolding from_of
  source_by k Before r p newest gives from = absurd cc
  source_by k (Within u) r p newest gives from =
      let place : u - plan.first ≡ r.from = ap from_of gives in
      let above = behind_first txns plan.first (plan.first + q) u k (Within u) newest refl in
      ap (λ n. Within n) (omega (arith, place, above, from))

  from_arrow : (set : DeclaredSet) (p : ℕ) (r : Arrow) → r.from ≡ p → Contains (arrows_in set txns q) r
      → (a : Access) × Contains (planned_in set plan q) a × (a.source ≡ Within (plan.first + p))
  unfolding Given
  from_arrow set p r from c =
      let ks = keys_in set x in
      let (j, k, at_k, gives) = giving (arrow_of txns q) ks r (subst (λ (l : List (List ℕ)). Contains (filter_map (arrow_of txns q) l) r) (keys set) c) in
      let long : j < length (planned_in set plan q) = omega (arith, paired txns plan set q x right at_x, slice_get_within ks j k at_k) in
      let (a, at_a) = there (planned_in set plan q) j long in
      let newest = right_source txns plan set q j x k a right at_x at_k at_a in
      (a, contains_at (planned_in set plan q) j a at_a, source_by k a.source r p newest (sym (arrow_by txns plan.first q k a.source newest) ∙ gives) from)

ends_at : (txns : List Txn) (q : ℕ) (ks : List (List ℕ)) (r : Arrow) → Contains (filter_map (arrow_of txns q) ks) r → r.to ≡ q
unfolding Given to_of
ends_at txns q ks r c =
    let (j, k, at_k, gives) = giving (arrow_of txns q) ks r c in by k (newest_before txns k q) gives
  where
    by : (k : List ℕ) (o : Option ℕ) → option_map (λ f. record { from = f; to = q; key = k }) o ≡ Some r → r.to ≡ q
    by k None gives = absurd cc
    by k (Some f) gives = sym (ap to_of gives)

ends_there : (txns : List Txn) (q : ℕ) (r : Arrow) → Contains (arrows_at txns q) r → r.to ≡ q
ends_there txns q r c =
    ⊎_elim (ends_at txns q (keys_at Reads txns q) r) (λ h. by (is_sure_at txns q) h)
    (Contains-append_cases (arrows_in Reads txns q) (cond (is_sure_at txns q) [] (arrows_in Writes txns q)) r c)
  where
    by : (sure : Bool) → Contains (cond sure [] (arrows_in Writes txns q)) r → r.to ≡ q
    by true (k, low, is) = absurd (omega (arith, low))
    by false h = ends_at txns q (keys_at Writes txns q) r h

-- ---- the arrows of a part

module _ (b : Batch) (right : IsRightPlan (txns_of b) (plan_of b)) (t u : ℕ) (in_t : IsIn b t) (in_u : IsIn b u) where
  inside : position b t < length (txns_of b)
  inside = omega (arith, in_t.from, in_t.below)

  to_unsure : (x : Txn) → slice_get (txns_of b) (position b t) ≡ Some x → (a : Access) → a.source ≡ Within u → (sure : Bool)
      → Contains (cond sure [] (planned_in Writes (plan_of b) (position b t))) a
      → IsWantedBy (arrows_in Reads (txns_of b) (position b t) ++ cond sure [] (arrows_in Writes (txns_of b) (position b t))) (position b u) (position b t)
  to_unsure x at_x a within true (k, low, is) = absurd (omega (arith, low))
  to_unsure x at_x a within false write =
      let (r, has, from, to) = to_arrow (txns_of b) (plan_of b) right (position b t) x at_x Writes u a within write in
      (r, Contains-append_right (arrows_in Reads (txns_of b) (position b t)) (arrows_in Writes (txns_of b) (position b t)) r has, from, to)

  to_either : (x : Txn) → slice_get (txns_of b) (position b t) ≡ Some x → (a : Access) → a.source ≡ Within u → (sure : Bool)
      → Contains (planned_in Reads (plan_of b) (position b t) ++ cond sure [] (planned_in Writes (plan_of b) (position b t))) a
      → IsWantedBy (arrows_in Reads (txns_of b) (position b t) ++ cond sure [] (arrows_in Writes (txns_of b) (position b t))) (position b u) (position b t)
  to_either x at_x a within sure c =
      ⊎_elim
      (λ read.
      let (r, has, from, to) = to_arrow (txns_of b) (plan_of b) right (position b t) x at_x Reads u a within read in
      (r, Contains-append_left (arrows_in Reads (txns_of b) (position b t)) (cond sure [] (arrows_in Writes (txns_of b) (position b t))) r has, from, to))
      (λ write. to_unsure x at_x a within sure write)
      (Contains-append_cases (planned_in Reads (plan_of b) (position b t)) (cond sure [] (planned_in Writes (plan_of b) (position b t))) a c)

  pub wanted_arrow : Wants b t u → IsWantedBy (arrows (txns_of b)) (position b u) (position b t)
  wanted_arrow (a, c, within) =
      let (x, at_x) = there (txns_of b) (position b t) inside in
      let (r, has, from, to) = to_either x at_x a within (is_sure_at (txns_of b) (position b t)) c in
      (r, at_below (txns_of b) r (position b t) (length (txns_of b)) inside has, from, to)

  same_source : (a : Access) → a.source ≡ Within ((plan_of b).first + position b u) → a.source ≡ Within u
  same_source a is = is ∙ ap (λ n. Within n) (omega (arith, in_u.from))

  from_either : (x : Txn) → slice_get (txns_of b) (position b t) ≡ Some x → (r : Arrow) → r.from ≡ position b u → (sure : Bool)
      → (Contains (arrows_in Reads (txns_of b) (position b t)) r ⊎ Contains (cond sure [] (arrows_in Writes (txns_of b) (position b t))) r)
      → (a : Access) × Contains (planned_in Reads (plan_of b) (position b t) ++ cond sure [] (planned_in Writes (plan_of b) (position b t))) a
      × (a.source ≡ Within u)
  from_either x at_x r from sure (inl c) =
      let (a, has, is) = from_arrow (txns_of b) (plan_of b) right (position b t) x at_x Reads (position b u) r from c in (
        a,
        Contains-append_left (planned_in Reads (plan_of b) (position b t)) (cond sure [] (planned_in Writes (plan_of b) (position b t))) a has,
        same_source a is,
      )
  from_either x at_x r from true (inr (k, low, is)) = absurd (omega (arith, low))
  from_either x at_x r from false (inr c) =
      let (a, has, is) = from_arrow (txns_of b) (plan_of b) right (position b t) x at_x Writes (position b u) r from c in
      (a, Contains-append_right (planned_in Reads (plan_of b) (position b t)) (planned_in Writes (plan_of b) (position b t)) a has, same_source a is)

  pub arrow_wanted : IsWantedBy (arrows (txns_of b)) (position b u) (position b t) → Wants b t u
  arrow_wanted (r, c, from, to) =
      let (x, at_x) = there (txns_of b) (position b t) inside in
      let (q, low, has) = below_at (txns_of b) r (length (txns_of b)) c in
      let same : q ≡ position b t = sym (ends_there (txns_of b) q r has) ∙ to in
      let here : Contains (arrows_at (txns_of b) (position b t)) r = subst (λ (m : ℕ). Contains (arrows_at (txns_of b) m) r) same has in
      from_either x at_x r from (is_sure_at (txns_of b) (position b t)) (Contains-append_cases (arrows_in Reads (txns_of b) (position b t))
      (cond (is_sure_at (txns_of b) (position b t)) [] (arrows_in Writes (txns_of b) (position b t))) r here)
