-- The entries of a store in the order of their keys.
use Rattle.std.proofs.Common.{◌≡◌, ℕ, suc, ◌<◌, true, false, List, [], ◌∷◌, length, get_or, refl, sym, ap, ◌∙◌, subst, arith, add-one}
use Rattle.std.specs.Prelude.{ℤ, T}
use Rattle.std.specs.List.{IsDistinct}
use Rattle.std.specs.List.Sorted.{IsPermutation, IsSortedByKey}
use Rattle.std.specs.Map.{keys_of}
use Rattle.std.specs.Ordering.{nat_cmp, is_lt, is_eq, ordering_reverse}
use Rattle.std.specs.declared.cmp.Ordering.{Ordering}
use Rattle.std.specs.declared.cmp.Ordering.TheVariants.{Less, Equal, Greater}
use Rattle.std.specs.Cmp.Derive.{both_true}
use Rattle.std.specs.Cmp.Lexicographic.{slice_cmp, nat_list_cmp_total}
use Rattle.std.specs.FinMap as finite
use Rattle.std.specs.FinMap.Entries.{is_sorted, below_all}
use Rattle.std.specs.Str.{bytes_eq}
use Rattle.std.proofs.lemmas.Bool.{and_parts}
use Rattle.std.proofs.lemmas.Map.Text.{is_eq-slice_cmp}
use Rattle.bohm_txn.specs.Stores.{Store, store_of}
use Rattle.bohm_txn.proofs.Apart.{less}
use Rattle.bohm_txn.proofs.Stores.{same_nat}
use Rattle.bohm_txn.proofs.Entries.{find_lookup, get-store_of}
use Rattle.bohm_txn.proofs.Permuted.{lookup_permuted, distinct_permuted}

-- an ordering that is neither greater nor equal is less
less_by : (o r : Ordering) → r ≡ ordering_reverse o → is_lt r ≡ false → is_eq o ≡ false → o ≡ Less
less_by Less r e above equal = refl
less_by Equal r e above equal = absurd cc
less_by Greater r e above equal = let turned : r ≡ Less = e in absurd (let p : is_lt r ≡ true = ap is_lt turned in cc)

less_than : (a b : List ℕ) → is_lt (slice_cmp nat_cmp b a) ≡ false → bytes_eq a b ≡ false → slice_cmp nat_cmp a b ≡ Less
less_than a b above other = less_by (slice_cmp nat_cmp a b) (slice_cmp nat_cmp b a) (nat_list_cmp_total.antisymm b a) above (is_eq-slice_cmp a b ∙ other)

below_more : (a b : List ℕ) (es : List (List ℕ × ℤ)) → slice_cmp nat_cmp a b ≡ Less → below_all (slice_cmp nat_cmp) b es ≡ true
    → below_all (slice_cmp nat_cmp) a es ≡ true
below_more a b [] under h = refl
below_more a b (e ∷ es) under h =
    let (first, rest) = and_parts (is_lt (slice_cmp nat_cmp b e.0)) (below_all (slice_cmp nat_cmp) b es) h in
    rw (nat_list_cmp_total.trans a b e.0 under (less _ first)) (below_more a b es under rest)

-- keys that don't descend and differ from one another ascend strictly
rises : (es : List (List ℕ × ℤ)) → ((k : ℕ) (d : List ℕ × ℤ) → suc k < length es → is_lt
    (slice_cmp nat_cmp (get_or es (suc k) d).0 (get_or es k d).0) ≡ false) → IsDistinct bytes_eq (keys_of es) → is_sorted (slice_cmp nat_cmp) es ≡ true
unfolding IsDistinct
rises [] sorted distinct = refl
rises (e ∷ []) sorted distinct = refl
rises (e ∷ f ∷ es) sorted distinct =
    let first : slice_cmp nat_cmp e.0 f.0 ≡ Less = less_than e.0 f.0 (sorted 0 e (omega arith)) distinct.0.0 in
    let rest : is_sorted (slice_cmp nat_cmp) (f ∷ es) ≡ true = rises (f ∷ es) (λ k d l. sorted (suc k) d (omega arith)) distinct.1 in
    both_true (both_true (ap is_lt first) (below_more e.0 f.0 es first
    (and_parts (below_all (slice_cmp nat_cmp) f.0 es) (is_sorted (slice_cmp nat_cmp) es) rest).0)) rest

-- a permutation of entries with distinct keys has the same store
pub same_moved : (es items : List (List ℕ × ℤ)) → IsPermutation es items → IsDistinct bytes_eq (keys_of es) → store_of items ≡ store_of es
same_moved es items moved distinct = finite.same_map nat_list_cmp_total same_nat _ _
    (λ q. get-store_of items q ∙ lookup_permuted es items moved distinct q ∙ sym (get-store_of es q))

-- entries with distinct keys, sorted by key, are in the order in which their store lists them
pub entries_listed : (es items : List (List ℕ × ℤ)) → IsPermutation es items → IsDistinct bytes_eq (keys_of es)
    → IsSortedByKey (λ e. e.0) (slice_cmp nat_cmp) items → items ≡ finite.entries (store_of items)
entries_listed es items moved distinct sorted =
    let rising : is_sorted (slice_cmp nat_cmp) items ≡ true =
    rises items (λ k d l. subst (λ (n : ℕ). is_lt (slice_cmp nat_cmp (get_or items n d).0 (get_or items k d).0) ≡ false) (add-one k)
    (sorted k d (omega arith) (omega arith))) (distinct_permuted es items moved distinct) in
    let here : T (is_sorted (slice_cmp nat_cmp) items) = subst T (sym rising) tt in
    let same : finite.from_sorted items ≡ store_of items = finite.same_map nat_list_cmp_total same_nat _ _
    (λ q. finite.get-from_sorted (slice_cmp nat_cmp) items q here ∙ find_lookup items q ∙ sym (get-store_of items q)) in
    sym (finite.entries-from_sorted (slice_cmp nat_cmp) items here) ∙ ap (λ (s : Store). finite.entries s) same
