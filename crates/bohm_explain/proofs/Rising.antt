-- The arrows of a part lead to later positions, and are in the order of the positions that they lead to.
use Rattle.std.proofs.Common.{◌≡◌, ℕ, zero, suc, ◌≤◌, List, [], ◌∷◌, ◌++◌, length, All, Bool, true}
use Rattle.std.proofs.Common.{false, cond, Option, Some, None, option_map, refl, sym, subst, arith}
use Rattle.std.specs.List.{filter_map, cons_option}
use Rattle.bohm_types.specs.Txn.{Txn}
use Rattle.bohm_place.specs.declared.declared_set.DeclaredSet.TheVariants.{Reads, Writes}
use Rattle.bohm_explain.specs.declared.arrow.Arrow.{Arrow}
use Rattle.bohm_explain.specs.Heaviest.{AreChainable, IsInside, AreRising}
use Rattle.bohm_explain.specs.Wanted.{newest_before, arrow_of, arrows, arrows_below, arrows_at, is_sure_at, keys_at}
use Rattle.bohm_explain.proofs.Inside.{below, inside_below, for_keys as forward_keys}

lower : (n m : ℕ) (ys : List Arrow) → n ≤ m → AreRising m ys → AreRising n ys
lower n m [] le h = h
lower n m (a ∷ rest) le h = ((let least = h.0 in omega (arith, least)), h.1, h.2)

joined : (n m : ℕ) (xs ys : List Arrow) → n ≤ m → AreRising n xs → All (IsInside (suc m)) xs → AreRising m ys → AreRising n (xs ++ ys)
joined n m [] ys le rises inside after = lower n m ys le after
joined n m (a ∷ rest) ys le rises inside after =
    let here : IsInside (suc m) a = inside zero a (omega arith) in
    let most : a.to ≤ m = let under = here.1 in omega (arith, under) in
    (rises.0, rises.1, joined a.to m rest ys most rises.2 (λ i d lt. inside (suc i) d (omega arith)) after)

module _ (txns : List Txn) (p : ℕ) where
  one : (k : List ℕ) (o : Option ℕ) (rest : List Arrow) → newest_before txns k p ≡ o → AreRising p rest
      → AreRising p (cons_option (option_map (λ f. record { from = f; to = p; key = k }) o) rest)
  one k None rest is h = h
  one k (Some f) rest is h = (omega arith, below txns k p f is, h)

  for_keys : (ks : List (List ℕ)) → AreRising p (filter_map (arrow_of txns p) ks)
  for_keys [] = tt
  for_keys (k ∷ ks) = one k (newest_before txns k p) (filter_map (arrow_of txns p) ks) refl (for_keys ks)

  all_to : (ks : List (List ℕ)) → All (IsInside (suc p)) (filter_map (arrow_of txns p) ks)
  all_to ks i d few =
      let (later, inside) = forward_keys txns (suc p) p (omega arith) ks i d few in
      (omega (arith, later, inside), inside)

  for_writes : (b : Bool) → AreRising p (cond b [] (filter_map (arrow_of txns p) (keys_at Writes txns p)))
  for_writes true = tt
  for_writes false = for_keys (keys_at Writes txns p)

  pub at_position : AreRising p (arrows_at txns p)
  at_position = joined p p (filter_map (arrow_of txns p) (keys_at Reads txns p))
      (cond (is_sure_at txns p) [] (filter_map (arrow_of txns p) (keys_at Writes txns p))) (omega arith) (for_keys (keys_at Reads txns p))
      (all_to (keys_at Reads txns p)) (for_writes (is_sure_at txns p))

rising_below : (txns : List Txn) (p : ℕ) → AreRising zero (arrows_below txns p)
rising_below txns zero = tt
rising_below txns (suc p) = joined zero p (arrows_below txns p) (arrows_at txns p) (omega arith) (rising_below txns p)
    (inside_below txns (suc p) p (omega arith)) (at_position txns p)

pub rising : (txns : List Txn) → AreRising zero (arrows txns)
rising txns = rising_below txns (length txns)

-- the arrows of a part are chainable with any weights that are light enough
pub chainable : (txns : List Txn) (weights : List ℕ) (wanted : List Arrow) → length txns ≤ 4096 → length weights ≡ length txns → All (λ w. w ≤ 3072) weights
    → wanted ≡ arrows txns → length wanted ≤ 131072 → AreChainable weights wanted
chainable txns weights wanted few paired light is few_arrows =
    let inside : All (IsInside (length txns)) wanted =
    subst (λ (as' : List Arrow). All (IsInside (length txns)) as') (sym is) (inside_below txns (length txns) (length txns) (omega arith)) in
    record {
      inside = subst (λ (n : ℕ). All (IsInside n) wanted) (sym paired) inside;
      rising = subst (λ (as' : List Arrow). AreRising 0 as') (sym is) (rising txns);
      light = light;
      few = omega (arith, paired, few);
      few_arrows = few_arrows;
    }
