-- The set of a list has exactly the list's keys, in ascending order and each once.
use Rattle.std.proofs.Common.{◌≡◌, ℕ, Bool, true, false, cond, List, [], ◌∷◌, refl, ap, sym, subst, ◌∙◌}
use Rattle.std.specs.Prelude.{◌||◌}
use Rattle.std.specs.Cmp.Derive.{both_true}
use Rattle.std.specs.Cmp.Lexicographic.{slice_cmp, nat_list_cmp_total, texts_ties}
use Rattle.std.specs.List.{dedup, dedup_from}
use Rattle.std.specs.List.Sorted.{IsPermutation, IsSorted, IsStrictlySortedBy}
use Rattle.std.specs.Ordering.{nat_cmp, is_lt, is_eq, ordering_reverse}
use Rattle.std.specs.Str.{bytes_eq}
use Rattle.std.specs.declared.cmp.Ordering.{Ordering}
use Rattle.std.specs.declared.cmp.Ordering.TheVariants.{Less, Equal, Greater}
use Rattle.std.proofs.lemmas.Bool.{and_parts, false_from_ne_true}
use Rattle.std.proofs.lemmas.List.Kept.{IsStrictlySortedBy-dedup}
use Rattle.std.proofs.lemmas.List.Sorted.{list_any-IsPermutation}
use Rattle.std.proofs.lemmas.Map.Text.{is_eq-slice_cmp}
use Rattle.bohm_types.specs.Keys.{is_among, rising, rises_from}
use Rattle.bohm_types.specs.KeySets.{inserted_by, inserted, key_set}
use Rattle.bohm_log.proofs.ForCallers.{among_key_set, same_key, key_itself}
use Rattle.bohm_txn.proofs.Apart.{less, among_first, rising_apart}

abbrev cmp : List ℕ → List ℕ → Ordering
cmp = slice_cmp nat_cmp

turned : (a b : List ℕ) → cmp a b ≡ Greater → cmp b a ≡ Less
turned a b e = nat_list_cmp_total.antisymm b a ∙ ap ordering_reverse e

pub rising_rest : (k : List ℕ) (ks : List (List ℕ)) → rises_from k ks ≡ true → rising ks ≡ true
rising_rest k [] r = refl
rising_rest k (n ∷ ns) r = (and_parts (is_lt (cmp k n)) (rises_from n ns) r).1

-- ---- the set ascends

rises_inserted : (m k : List ℕ) (xs : List (List ℕ)) → cmp m k ≡ Less → rises_from m xs ≡ true → rises_from m (inserted k xs) ≡ true
rises_inserted m k [] under r = both_true (ap is_lt under) refl
rises_inserted m k (x ∷ xs) under r =
    let (first, rest) = and_parts (is_lt (cmp m x)) (rises_from x xs) r in
    elim (cmp k x) as (λ o. cmp k x ≡ o → rises_from m (inserted_by o k x xs (inserted k xs)) ≡ true) [
      | Less ↦ λ e. both_true (ap is_lt under) (both_true (ap is_lt e) rest)
      | Equal ↦ λ e. r
      | Greater ↦ λ e. both_true first (rises_inserted x k xs (turned k x e) rest)
    ] refl

rising_inserted : (k : List ℕ) (xs : List (List ℕ)) → rising xs ≡ true → rising (inserted k xs) ≡ true
rising_inserted k [] r = refl
rising_inserted k (x ∷ xs) r =
    elim (cmp k x) as (λ o. cmp k x ≡ o → rising (inserted_by o k x xs (inserted k xs)) ≡ true) [
      | Less ↦ λ e. both_true (ap is_lt e) r
      | Equal ↦ λ e. r
      | Greater ↦ λ e. rises_inserted x k xs (turned k x e) r
    ] refl

pub key_set_rises : (ks : List (List ℕ)) → rising (key_set ks) ≡ true
key_set_rises [] = refl
key_set_rises (k ∷ ks) = rising_inserted k (key_set ks) (key_set_rises ks)

-- ---- ascending keys are their own set

itself_from : (k : List ℕ) (ks : List (List ℕ)) → rises_from k ks ≡ true → key_set (k ∷ ks) ≡ k ∷ ks
itself_from k [] r = refl
itself_from k (n ∷ ns) r =
    let (first, rest) = and_parts (is_lt (cmp k n)) (rises_from n ns) r in
    ap (inserted k) (itself_from n ns rest) ∙ ap (λ o. inserted_by o k n ns (inserted k ns)) (less (cmp k n) first)

pub key_set_itself : (ks : List (List ℕ)) → rising ks ≡ true → key_set ks ≡ ks
key_set_itself [] r = refl
key_set_itself (k ∷ ks) r = itself_from k ks r

-- ---- ascending lists with the same keys are equal

abbrev SameKeys : List (List ℕ) → List (List ℕ) → Type 0
SameKeys ks ns = (q : List ℕ) → is_among ks q ≡ is_among ns q

among_itself : (k : List ℕ) (ks : List (List ℕ)) → is_among (k ∷ ks) k ≡ true
among_itself k ks = among_first k k ks (key_itself k)

absent : (k : List ℕ) (ks : List (List ℕ)) → rises_from k ks ≡ true → is_among ks k ≡ false
absent k ks r = false_from_ne_true (is_among ks k) (rising_apart (k ∷ ks) r).0

none_below : (x y : List ℕ) (xs ys : List (List ℕ)) → rises_from y ys ≡ true → SameKeys (x ∷ xs) (y ∷ ys) → ¬ (cmp x y ≡ Less)
none_below x y xs ys r same under = (rising_apart (x ∷ y ∷ ys) (both_true (ap is_lt under) r)).0 (sym (same x) ∙ among_itself x xs)

same_first : (x y : List ℕ) (xs ys : List (List ℕ)) → rises_from x xs ≡ true → rises_from y ys ≡ true → SameKeys (x ∷ xs) (y ∷ ys) → x ≡ y
same_first x y xs ys r s same =
    elim (cmp x y) as (λ o. cmp x y ≡ o → x ≡ y) [
      | Less ↦ λ e. absurd (none_below x y xs ys s same e)
      | Equal ↦ λ e. same_key x y (sym (is_eq-slice_cmp x y) ∙ ap is_eq e)
      | Greater ↦ λ e. absurd (none_below y x ys xs r (λ q. sym (same q)) (turned x y e))
    ] refl

same_rest : (x : List ℕ) (xs ys : List (List ℕ)) → rises_from x xs ≡ true → rises_from x ys ≡ true → SameKeys (x ∷ xs) (x ∷ ys) → SameKeys xs ys
same_rest x xs ys r s same q =
    elim (bytes_eq x q) as (λ b. bytes_eq x q ≡ b → (b || is_among xs q) ≡ (b || is_among ys q) → is_among xs q ≡ is_among ys q) [
      | true ↦ λ e _. subst (λ z. is_among xs z ≡ is_among ys z) (same_key x q e) (absent x xs r ∙ sym (absent x ys s))
      | false ↦ λ e h. h
    ] refl (same q)

one_list : (xs ys : List (List ℕ)) → rising xs ≡ true → rising ys ≡ true → SameKeys xs ys → xs ≡ ys
one_list [] [] r s same = refl
one_list [] (y ∷ ys) r s same = absurd (let h = same y ∙ among_itself y ys in cc)
one_list (x ∷ xs) [] r s same = absurd (let h = sym (same x) ∙ among_itself x xs in cc)
one_list (x ∷ xs) (y ∷ ys) r s same =
    let first : x ≡ y = same_first x y xs ys r s same in
    let s' : rises_from x ys ≡ true = subst (λ z. rises_from z ys ≡ true) (sym first) s in
    let same' : SameKeys (x ∷ xs) (x ∷ ys) = subst (λ z. SameKeys (x ∷ xs) (z ∷ ys)) (sym first) same in
    ap (λ z. z ∷ xs) first ∙ ap (λ zs. y ∷ zs) (one_list xs ys (rising_rest x xs r) (rising_rest y ys s) (same_rest x xs ys r s' same'))

-- ---- a sorted list without duplicates is the set of its keys

strict_rises : (ks : List (List ℕ)) → IsStrictlySortedBy cmp ks → rising ks ≡ true
unfolding IsStrictlySortedBy
strict_rises [] s = refl
strict_rises (k ∷ []) s = refl
strict_rises (k ∷ n ∷ ns) s = both_true (ap is_lt s.0.0) (strict_rises (n ∷ ns) s.1)

or_twice : (a b : Bool) → (a || b) ≡ (a || (a || b))
or_twice true b = refl
or_twice false b = refl

among_dedup_from : (k : List ℕ) (ks : List (List ℕ)) (q : List ℕ) → is_among (dedup_from bytes_eq k ks) q ≡ is_among (k ∷ ks) q
among_dedup_from k [] q = refl
among_dedup_from k (n ∷ ns) q =
    elim (bytes_eq n k) as (λ b. bytes_eq n k ≡ b
    → is_among (cond b (dedup_from bytes_eq k ns) (k ∷ dedup_from bytes_eq n ns)) q ≡ (bytes_eq k q || (bytes_eq n q || is_among ns q))) [
      | true ↦ λ e. among_dedup_from k ns q ∙ subst (λ z. (bytes_eq k q || is_among ns q) ≡ (bytes_eq k q || (bytes_eq z q || is_among ns q)))
          (sym (same_key n k e)) (or_twice (bytes_eq k q) (is_among ns q))
      | false ↦ λ e. ap (λ b. bytes_eq k q || b) (among_dedup_from n ns q)
    ] refl

among_dedup : (ks : List (List ℕ)) (q : List ℕ) → is_among (dedup bytes_eq ks) q ≡ is_among ks q
among_dedup [] q = refl
among_dedup (k ∷ ks) q = among_dedup_from k ks q

pub sorted_set : (ks sorted : List (List ℕ)) → IsPermutation ks sorted → IsSorted cmp sorted → dedup bytes_eq sorted ≡ key_set ks
sorted_set ks sorted moved order =
    let rises : rising (dedup bytes_eq sorted) ≡ true =
    strict_rises (dedup bytes_eq sorted) (IsStrictlySortedBy-dedup nat_list_cmp_total texts_ties sorted order) in
    one_list (dedup bytes_eq sorted) (key_set ks) rises (key_set_rises ks)
    (λ q. among_dedup sorted q ∙ (sym (list_any-IsPermutation (λ x. bytes_eq x q) ks sorted moved) ∙ sym (among_key_set ks q)))
