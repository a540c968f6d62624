-- The order of heats: in a ranked list each heat is hotter than those after it, and only one list is ranked.
use Rattle.std.proofs.Common.{◌≡◌, ◌≢◌, ◌⊎◌, ◌∙◌, ℕ, suc, List, [], ◌∷◌, map, get_or, false, refl, sym, ap, subst, inl, inr, arith}
use Rattle.std.specs.declared.cmp.Ordering.{Ordering}
use Rattle.std.specs.declared.cmp.Ordering.TheVariants.{Less, Equal, Greater}
use Rattle.std.specs.List.{AllPairs, Contains, IsDistinct}
use Rattle.std.specs.List.Sorted.{IsPermutation, IsSortedBy}
use Rattle.std.specs.Ordering.{nat_cmp, is_lt, is_eq, ordering_then, ordering_reverse}
use Rattle.std.specs.Cmp.{IsTotalOrder, IsStrictWeakOrder, then_total, back_total, on_total, nat_cmp_total}
use Rattle.std.specs.Cmp.Lexicographic.{slice_cmp, nat_list_cmp_total}
use Rattle.std.specs.Str.{bytes_eq}
use Rattle.std.proofs.Math.ListN.{get_or-map}
use Rattle.std.proofs.lemmas.List.{length-map}
use Rattle.std.proofs.lemmas.List.Sorted.{ranks_by, sorted_far, IsPermutation-map, IsPermutation-sym, Contains-permutation}
use Rattle.std.proofs.lemmas.Map.Keys.{IsDistinct-IsPermutation}
use Rattle.std.proofs.lemmas.Map.Made.{AllPairs-from_IsDistinct}
use Rattle.std.proofs.lemmas.Map.Text.{is_eq-slice_cmp}
use Rattle.std.proofs.lemmas.Slice.Eq.{bytes_eq-Decides}
use Rattle.std.specs.Cmp.Lexicographic.{nat_list_eq_equiv}
use Rattle.bohm_explain.specs.declared.heat.Heat.{Heat}
use Rattle.bohm_explain.specs.Ranking.{accesses, rank_cmp, IsHotter, IsRanking}
use Rattle.bohm_txn.proofs.ForCallers.{contains_head, contains_tail, contains_cases}
use Rattle.bohm_board.proofs.ForCallers.{nothing_in}

pub in_order : IsTotalOrder rank_cmp
in_order = then_total (then_total (back_total (on_total accesses nat_cmp_total)) (back_total (on_total (λ h. h.chain) nat_cmp_total)))
    (on_total (λ h. h.key) nat_list_cmp_total)

pub weakly : IsStrictWeakOrder (λ x y. is_lt (rank_cmp x y))
weakly = ranks_by in_order (λ h. h)

-- ---- a sorted list is ranked

last_ties : (a b : Ordering) → ordering_then a b ≡ Equal → b ≡ Equal
last_ties Less b h = absurd cc
last_ties Equal b h = h
last_ties Greater b h = absurd cc

same_keys : (h g : Heat) → rank_cmp h g ≡ Equal → h.key ≡ g.key
same_keys h g ties =
    let level : slice_cmp nat_cmp h.key g.key ≡ Equal = last_ties _ _ ties in
    (bytes_eq-Decides h.key g.key).0 (sym (is_eq-slice_cmp h.key g.key) ∙ ap is_eq level)

hotter_of : (o p : Ordering) → o ≡ ordering_reverse p → is_lt p ≡ false → (o ≢ Equal) → o ≡ Less
hotter_of Less p flip far apart = refl
hotter_of Equal p flip far apart = absurd (apart refl)
hotter_of Greater Less flip far apart = absurd cc
hotter_of Greater Equal flip far apart = absurd cc
hotter_of Greater Greater flip far apart = absurd cc

pub strictly : (xs : List Heat) → IsSortedBy (λ x y. is_lt (rank_cmp x y)) xs → IsDistinct bytes_eq (map (λ h. h.key) xs) → AllPairs IsHotter xs
strictly xs sorted distinct i j d before inside =
    let h = get_or xs i d in
    let g = get_or xs j d in
    let keys : AllPairs (λ (x y : List ℕ). x ≢ y) (map (λ (h : Heat). h.key) xs) = AllPairs-from_IsDistinct bytes_eq-Decides (map (λ h. h.key) xs) distinct in
    let apart : h.key ≢ g.key = λ same. keys i j d.key before (rw (length-map xs (λ (h : Heat). h.key)) inside)
    (get_or-map (λ (h : Heat). h.key) xs i d ∙ (same ∙ sym (get_or-map (λ (h : Heat). h.key) xs j d))) in
    hotter_of (rank_cmp h g) (rank_cmp g h) (in_order.antisymm h g)
    (sorted_far (λ x y. is_lt (rank_cmp x y)) weakly xs sorted i j d (omega (arith, before)) inside) (λ ties. apart (same_keys h g ties))

pub moved_apart : (xs ys : List Heat) → IsPermutation xs ys → IsDistinct bytes_eq (map (λ h. h.key) xs) → IsDistinct bytes_eq (map (λ h. h.key) ys)
moved_apart xs ys moved distinct = IsDistinct-IsPermutation bytes_eq nat_list_eq_equiv.symm _ _ (IsPermutation-map (λ h. h.key) xs ys moved) distinct

-- ---- only one list is ranked

one_way : (h g : Heat) → IsHotter h g → IsHotter g h → ⊥
one_way h g first second =
    let flip : rank_cmp h g ≡ Greater = in_order.antisymm h g ∙ ap ordering_reverse second in
    let clash : Less ≡ Greater = sym first ∙ flip in
    absurd cc

tail_pairs : (x : Heat) (xs : List Heat) → AllPairs IsHotter (x ∷ xs) → AllPairs IsHotter xs
tail_pairs x xs all i j d before inside = all (suc i) (suc j) d (omega (arith, before)) (omega (arith, inside))

head_pairs : (x : Heat) (xs : List Heat) → AllPairs IsHotter (x ∷ xs) → (z : Heat) → Contains xs z → IsHotter x z
head_pairs x xs all z there = subst (λ w. IsHotter x w) there.2 (all 0 (suc there.0) z (omega arith) (omega (arith, there.1)))

module _ (x y : Heat) (xs ys : List Heat) (hot : AllPairs IsHotter (x ∷ xs)) where
  heads : AllPairs IsHotter (y ∷ ys) → (y ≡ x) ⊎ Contains ys x → (x ≡ y) ⊎ Contains xs y → x ≡ y
  heads other (inl e) f = sym e
  heads other (inr a) (inl e) = e
  heads other (inr a) (inr b) = absurd (one_way x y (head_pairs x xs hot y b) (head_pairs y ys other x a))

  behind : x ≡ y → (z : Heat) → Contains xs z → (y ≡ z) ⊎ Contains ys z → Contains ys z
  behind same z there (inl e) =
      let hotter : IsHotter x x = subst (λ w. IsHotter x w) (sym (same ∙ e)) (head_pairs x xs hot z there) in
      absurd (one_way x x hotter hotter)
  behind same z there (inr a) = a

pub one_order : (xs ys : List Heat) → AllPairs IsHotter xs → AllPairs IsHotter ys → ((z : Heat) → Contains xs z → Contains ys z)
    → ((z : Heat) → Contains ys z → Contains xs z) → xs ≡ ys
one_order [] [] hot other into from = refl
one_order [] (y ∷ ys) hot other into from = absurd (nothing_in y (from y (contains_head y ys)))
one_order (x ∷ xs) [] hot other into from = absurd (nothing_in x (into x (contains_head x xs)))
one_order (x ∷ xs) (y ∷ ys) hot other into from =
    let among_ys : (z : Heat) → Contains (x ∷ xs) z → (y ≡ z) ⊎ Contains ys z = λ z there. contains_cases y z ys (into z there) in
    let among_xs : (z : Heat) → Contains (y ∷ ys) z → (x ≡ z) ⊎ Contains xs z = λ z there. contains_cases x z xs (from z there) in
    let same : x ≡ y = heads x y xs ys hot other (among_ys x (contains_head x xs)) (among_xs y (contains_head y ys)) in
    let rest : xs ≡ ys = one_order xs ys (tail_pairs x xs hot) (tail_pairs y ys other)
    (λ z there. behind x y xs ys hot same z there (among_ys z (contains_tail x z xs there)))
    (λ z there. behind y x ys xs other (sym same) z there (among_xs z (contains_tail y z ys there))) in
    λ i. same i ∷ rest i

pub one_ranking : (heats ranked other : List Heat) → IsRanking heats ranked → IsRanking heats other → ranked ≡ other
one_ranking heats ranked other is also =
    one_order ranked other is.hottest_first also.hottest_first
    (λ z there. Contains-permutation heats other z also.same (Contains-permutation ranked heats z (IsPermutation-sym heats ranked is.same) there))
    (λ z there. Contains-permutation heats ranked z is.same (Contains-permutation other heats z (IsPermutation-sym heats other also.same) there))
