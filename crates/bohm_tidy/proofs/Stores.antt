-- Entries with ascending keys are the entries of their store.
use Rattle.std.proofs.Common.{◌≡◌, ℕ, Bool, true, false, List, [], ◌∷◌, length, refl, ap, sym, subst, ◌∙◌, arith}
use Rattle.std.specs.Prelude.{ℤ, T}
use Rattle.std.specs.Cmp.Derive.{both_true}
use Rattle.std.specs.Cmp.Lexicographic.{slice_cmp, nat_list_cmp_total, nat_list_eq_equiv}
use Rattle.std.specs.FinMap as finite
use Rattle.std.specs.FinMap.Entries.{is_sorted, below_all, put, by_order}
use Rattle.std.specs.List.{AllByRecursion, IsDistinct}
use Rattle.std.specs.List.Sorted.{IsPermutation, IsSortedByKey}
use Rattle.std.specs.Ordering.{nat_cmp, is_lt}
use Rattle.std.specs.Str.{bytes_eq}
use Rattle.std.specs.declared.cmp.Ordering.{Ordering}
use Rattle.std.specs.declared.cmp.Ordering.TheVariants.{Less, Equal, Greater}
use Rattle.std.proofs.lemmas.Bool.{and_parts, false≢true}
use Rattle.std.proofs.lemmas.List.Sorted.{IsPermutation-map, IsPermutation-sym}
use Rattle.std.proofs.lemmas.Map.Keys.{IsDistinct-IsPermutation}
use Rattle.bohm_types.specs.Keys.{names_of, rising, rises_from}
use Rattle.bohm_types.specs.Sound.{IsEntry}
use Rattle.bohm_txn.specs.Stores.{Store, store_of}
use Rattle.bohm_txn.proofs.ForCallers.{less, rising_rest, same_moved, entries_listed, rising_distinct}

abbrev Entries : Type 0
Entries = List (List ℕ × ℤ)

abbrev cmp : List ℕ → List ℕ → Ordering
cmp = slice_cmp nat_cmp

truth : (b : Bool) → T b → b ≡ true
truth true h = refl
truth false h = absurd h

-- ---- ascending keys and the library's sorted entries

rises_below : (a b : List ℕ) (ks : List (List ℕ)) → cmp a b ≡ Less → rises_from b ks ≡ true → rises_from a ks ≡ true
rises_below a b [] under r = refl
rises_below a b (k ∷ ks) under r =
    let (first, rest) = and_parts (is_lt (cmp b k)) (rises_from k ks) r in
    both_true (ap is_lt (nat_list_cmp_total.trans a b k under (less (cmp b k) first))) rest

below_rising : (a : List ℕ) (es : Entries) → rises_from a (names_of es) ≡ true → below_all cmp a es ≡ true
below_rising a [] r = refl
below_rising a (e ∷ es) r =
    let (first, rest) = and_parts (is_lt (cmp a e.0)) (rises_from e.0 (names_of es)) r in
    both_true first (below_rising a es (rises_below a e.0 (names_of es) (less (cmp a e.0) first) rest))

sorted_rising : (es : Entries) → rising (names_of es) ≡ true → is_sorted cmp es ≡ true
sorted_rising [] r = refl
sorted_rising (e ∷ es) r = both_true (below_rising e.0 es r) (sorted_rising es (rising_rest e.0 (names_of es) r))

rising_sorted : (es : Entries) → is_sorted cmp es ≡ true → rising (names_of es) ≡ true
rising_sorted [] s = refl
rising_sorted (e ∷ []) s = refl
rising_sorted (e ∷ f ∷ es) s =
    let (first, rest) = and_parts (below_all cmp e.0 (f ∷ es)) (is_sorted cmp (f ∷ es)) s in
    both_true (and_parts (is_lt (cmp e.0 f.0)) (below_all cmp e.0 es) first).0 (rising_sorted (f ∷ es) rest)

pub entries_rise : (s : Store) → rising (names_of (finite.entries s)) ≡ true
entries_rise s = rising_sorted (finite.entries s) (truth (is_sorted cmp (finite.entries s)) (finite.entries_sorted s))

-- the store of entries with ascending keys has exactly these entries, in this order
pub rising_entries : (es : Entries) → rising (names_of es) ≡ true → finite.entries (store_of es) ≡ es
rising_entries es r =
    let here : T (is_sorted cmp es) = subst T (sym (sorted_rising es r)) tt in
    let same : finite.from_sorted es ≡ store_of es = finite.same_map nat_list_cmp_total (finite.slice_cmp-IsAntisymmetric finite.nat_cmp-IsAntisymmetric) _ _
    (λ q. finite.get-from_sorted cmp es q here ∙ sym (finite.get-from_entries nat_list_cmp_total es q)) in
    ap (λ (s : Store). finite.entries s) (sym same) ∙ finite.entries-from_sorted cmp es here

-- ---- ascending keys are distinct

-- ---- entries that were sorted

pub distinct_moved : (es sorted : Entries) → IsPermutation es sorted → rising (names_of sorted) ≡ true → IsDistinct bytes_eq (names_of es)
distinct_moved es sorted moved r = IsDistinct-IsPermutation bytes_eq nat_list_eq_equiv.symm (names_of sorted) (names_of es)
    (IsPermutation-map (λ (e : List ℕ × ℤ). e.0) sorted es (IsPermutation-sym es sorted moved)) (rising_distinct (names_of sorted) r)

-- entries sorted by key, each key once, are the entries of the unsorted entries' store
pub entries_moved : (es sorted : Entries) → IsPermutation es sorted → rising (names_of sorted) ≡ true → sorted ≡ finite.entries (store_of es)
entries_moved es sorted moved r = sym (rising_entries sorted r)
    ∙ ap (λ (s : Store). finite.entries s) (same_moved es sorted moved (distinct_moved es sorted moved r))

-- entries with a key that doesn't ascend once they are sorted have a key twice
pub double_moved : (es sorted : Entries) → IsPermutation es sorted → IsSortedByKey (λ e. e.0) cmp sorted → rising (names_of sorted) ≡ false
    → ¬ IsDistinct bytes_eq (names_of es)
double_moved es sorted moved order falls distinct =
    let listed : sorted ≡ finite.entries (store_of sorted) = entries_listed es sorted moved distinct order in
    let rises : rising (names_of sorted) ≡ true = ap (λ (fs : Entries). rising (names_of fs)) listed ∙ entries_rise (store_of sorted) in
    false≢true (sym falls ∙ rises)

-- ---- the store of sound entries has sound entries

put_sound : (k : List ℕ) (z : ℤ) (es : Entries) → IsEntry (k, z) → AllByRecursion IsEntry es → AllByRecursion IsEntry (put cmp k z es)
put_sound k z [] new all = (new, tt)
put_sound k z (e ∷ es) new all =
    elim (cmp k e.0) as (λ o. AllByRecursion IsEntry (by_order o ((k, z) ∷ e ∷ es) ((e.0, z) ∷ es) (e ∷ put cmp k z es))) [
      | Less ↦ (new, (all.0, all.1))
      | Equal ↦ ((all.0.0, new.1), all.1)
      | Greater ↦ (all.0, put_sound k z es new all.1)
    ]

none_sound : (es : Entries) → length es ≡ 0 → AllByRecursion IsEntry es
none_sound [] e = tt
none_sound (x ∷ es) e = absurd (omega (arith, e))

pub entries_sound : (es : Entries) → AllByRecursion IsEntry es → AllByRecursion IsEntry (finite.entries (store_of es))
entries_sound [] all = none_sound (finite.entries (store_of [])) (sym (finite.len-entries (store_of [])) ∙ finite.len-empty cmp ℤ)
entries_sound (e ∷ es) all =
    subst (λ (fs : Entries). AllByRecursion IsEntry fs) (sym (finite.entries-insert nat_list_cmp_total (store_of es) e.0 e.1))
    (put_sound e.0 e.1 (finite.entries (store_of es)) all.0 (entries_sound es all.1))
