-- The store of a list of entries.
use Rattle.std.proofs.Common.{◌≡◌, ℕ, ◌+◌, Bool, true, false, cond, List, [], ◌∷◌, take, Some, None, refl, ap, sym, ◌∙◌}
use Rattle.std.specs.Prelude.{ℤ, Option}
use Rattle.std.specs.List.{slice_get}
use Rattle.std.specs.Ordering.{nat_cmp}
use Rattle.std.specs.Cmp.Lexicographic.{slice_cmp, nat_list_cmp_total}
use Rattle.std.specs.FinMap as finite
use Rattle.std.specs.FinMap.Entries.{find}
use Rattle.std.specs.Map.{lookup}
use Rattle.std.specs.Str.{bytes_eq}
use Rattle.std.proofs.lemmas.Bool.{or_parts}
use Rattle.std.proofs.lemmas.List.{take-map, take_more}
use Rattle.std.proofs.lemmas.Map.Text.{is_eq-slice_cmp}
use Rattle.std.proofs.lemmas.Option.{slice_get-map, slice_get_within, get_or_from_slice_get}
use Rattle.bohm_types.specs.Keys.{is_among, rising, names_of}
use Rattle.bohm_txn.specs.Stores.{store_of}
use Rattle.bohm_txn.proofs.Apart.{rising_apart, none_before}
use Rattle.bohm_txn.proofs.Stores.{tested, same_nat}
use Rattle.bohm_log.proofs.ForCallers.{other_key}

pub find_lookup : (es : List (List ℕ × ℤ)) (q : List ℕ) → find (slice_cmp nat_cmp) q es ≡ lookup (bytes_eq q) es
find_lookup [] q = refl
find_lookup (e ∷ es) q = ap (λ (b : Bool). cond b (Some e.1) (find (slice_cmp nat_cmp) q es)) (is_eq-slice_cmp q e.0)
    ∙ ap (λ (o : Option ℤ). cond (bytes_eq q e.0) (Some e.1) o) (find_lookup es q)

-- the store of a list has for each key the value that a look-up in the list finds
pub get-store_of : (es : List (List ℕ × ℤ)) (q : List ℕ) → finite.get (store_of es) q ≡ lookup (bytes_eq q) es
get-store_of es q = finite.get-from_entries nat_list_cmp_total es q ∙ find_lookup es q

-- a list with z for one key, and otherwise the same values, has the store with z inserted
pub store_of-insert : (es fs : List (List ℕ × ℤ)) (k : List ℕ) (z : ℤ)
    → ((q : List ℕ) → lookup (bytes_eq q) fs ≡ cond (bytes_eq k q) (Some z) (lookup (bytes_eq q) es)) → store_of fs ≡ finite.insert (store_of es) k z
store_of-insert es fs k z h = finite.same_map nat_list_cmp_total same_nat _ _
    (λ q. get-store_of fs q ∙ h q ∙ ap (λ (o : Option ℤ). cond (bytes_eq k q) (Some z) o) (sym (get-store_of es q))
    ∙ ap (λ (b : Bool). cond b (Some z) (finite.get (store_of es) q)) (sym (tested q k)) ∙ sym (finite.get-insert nat_list_cmp_total (store_of es) k z q))

-- a list without one key, and otherwise with the same values, has the store with this key removed
pub store_of-remove : (es fs : List (List ℕ × ℤ)) (k : List ℕ) → ((q : List ℕ) → lookup (bytes_eq q) fs ≡ cond (bytes_eq k q) None (lookup (bytes_eq q) es))
    → store_of fs ≡ finite.remove (store_of es) k
store_of-remove es fs k h = finite.same_map nat_list_cmp_total same_nat _ _
    (λ q. get-store_of fs q ∙ h q ∙ ap (λ (o : Option ℤ). cond (bytes_eq k q) None o) (sym (get-store_of es q))
    ∙ ap (λ (b : Bool). cond b None (finite.get (store_of es) q)) (sym (tested q k)) ∙ sym (finite.get-remove nat_list_cmp_total (store_of es) k q))

-- ---- a list whose keys ascend

none_found : (es : List (List ℕ × ℤ)) (q : List ℕ) → is_among (names_of es) q ≡ false → find (slice_cmp nat_cmp) q es ≡ None
none_found [] q absent = refl
none_found (e ∷ es) q absent =
    let (here, later) = or_parts (bytes_eq e.0 q) (is_among (names_of es) q) absent in
    rw (is_eq-slice_cmp q e.0, other_key e.0 q here) (none_found es q later)

-- in a list whose keys ascend, the key at an index doesn't occur before the index
unseen : (es : List (List ℕ × ℤ)) (j : ℕ) (x : List ℕ × ℤ) → rising (names_of es) ≡ true → slice_get es j ≡ Some x
    → find (slice_cmp nat_cmp) x.0 (take j es) ≡ None
unseen es j x r e =
    let named : slice_get (names_of es) j ≡ Some x.0 = rw (slice_get-map (λ (y : List ℕ × ℤ). y.0) es j, e) refl in
    let absent = none_before (names_of es) j x.0 (slice_get_within (names_of es) j x.0 named) (rising_apart (names_of es) r) in
    none_found (take j es) x.0 (rw (get_or_from_slice_get (names_of es) j x.0 x.0 named, take-map (λ (y : List ℕ × ℤ). y.0) j es) at absent)

-- one more entry of a list whose keys ascend is one more insertion into the store
pub store_of-take : (es : List (List ℕ × ℤ)) (j : ℕ) (x : List ℕ × ℤ) → rising (names_of es) ≡ true → slice_get es j ≡ Some x
    → store_of (take (j + 1) es) ≡ finite.insert (store_of (take j es)) x.0 x.1
store_of-take es j x r e = rw (take_more es j x (slice_get_within es j x e), get_or_from_slice_get es j x x e)
    (finite.from_entries_push nat_list_cmp_total same_nat (take j es) x.0 x.1 (unseen es j x r e))
