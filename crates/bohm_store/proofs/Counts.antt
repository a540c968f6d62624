-- Two lists of versions by key have the same total if each key has the same versions in both.
use Rattle.std.proofs.Common.{◌≡◌, ℕ, ◌+◌, Bool, true, false, cond, List, [], ◌∷◌, length, Option, None, unwrap_or, refl, sym, ap, ◌∙◌, arith, if◌then◌else◌}
use Rattle.std.specs.List.{AllByRecursion, IsDistinct}
use Rattle.std.specs.Map.{lookup, keys_of, remove_entry}
use Rattle.std.specs.Str.{bytes_eq}
use Rattle.std.specs.Cmp.Lexicographic.{nat_list_eq_equiv}
use Rattle.std.proofs.lemmas.Map.{lookup-remove_entry}
use Rattle.bohm_txn.proofs.ForCallers.{key_itself}
use Rattle.bohm_store.specs.declared.version.Version.{Version}
use Rattle.bohm_store.specs.Versions.{total, versions_in}
use Rattle.bohm_store.proofs.StoreEntries.{none_from}

abbrev Keyed : Type 0
Keyed = List (List ℕ × List Version)

-- ---- a list without the entry of a key

removed_by : (k : List ℕ) (f : List ℕ × List Version) (fs : Keyed) (b : Bool) → bytes_eq k f.0 ≡ b
    → total (remove_entry (bytes_eq k) fs) + length (versions_in fs k) ≡ total fs
    → total (remove_entry (bytes_eq k) (f ∷ fs)) + length (versions_in (f ∷ fs) k) ≡ total (f ∷ fs)
removed_by k f fs true e more = rw e (omega arith)
removed_by k f fs false e more = rw e (omega (arith, more))

pub total_removed : (k : List ℕ) (fs : Keyed) → total (remove_entry (bytes_eq k) fs) + length (versions_in fs k) ≡ total fs
total_removed k [] = refl
total_removed k (f ∷ fs) = removed_by k f fs (bytes_eq k f.0) refl (total_removed k fs)

versions_if : (b : Bool) (o : Option (List Version)) → unwrap_or (cond b None o) [] ≡ (if b then [] else unwrap_or o [])
versions_if true o = refl
versions_if false o = refl

pub versions_removed : (k q : List ℕ) (fs : Keyed) → IsDistinct bytes_eq (keys_of fs)
    → versions_in (remove_entry (bytes_eq k) fs) q ≡ (if bytes_eq k q then [] else versions_in fs q)
versions_removed k q fs d =
    ap (λ (o : Option (List Version)). unwrap_or o []) (lookup-remove_entry nat_list_eq_equiv (bytes_eq k) (λ x y e. nat_list_eq_equiv.congr k x y e) q fs d)
    ∙ versions_if (bytes_eq k q) (lookup (bytes_eq q) fs)

all_removed : (P : List ℕ → Type 0) (k : List ℕ) (fs : Keyed) → AllByRecursion P (keys_of fs) → AllByRecursion P (keys_of (remove_entry (bytes_eq k) fs))
all_removed P k [] h = h
all_removed P k (f ∷ fs) h = by P k f fs (bytes_eq k f.0) refl h (all_removed P k fs h.1)
  where
    by : (P : List ℕ → Type 0) (k : List ℕ) (f : List ℕ × List Version) (fs : Keyed) (b : Bool) → bytes_eq k f.0 ≡ b
        → AllByRecursion P (keys_of (f ∷ fs)) → AllByRecursion P (keys_of (remove_entry (bytes_eq k) fs))
        → AllByRecursion P (keys_of (remove_entry (bytes_eq k) (f ∷ fs)))
    by P k f fs true e h more = rw e h.1
    by P k f fs false e h more = rw e (h.0, more)

distinct_by : (k : List ℕ) (f : List ℕ × List Version) (fs : Keyed) (b : Bool) → bytes_eq k f.0 ≡ b → IsDistinct bytes_eq (keys_of (f ∷ fs))
    → IsDistinct bytes_eq (keys_of (remove_entry (bytes_eq k) fs)) → IsDistinct bytes_eq (keys_of (remove_entry (bytes_eq k) (f ∷ fs)))
unfolding IsDistinct
distinct_by k f fs true e d more = rw e d.1
distinct_by k f fs false e d more = rw e (all_removed (λ y. bytes_eq f.0 y ≡ false) k fs d.0, more)

pub distinct_removed : (k : List ℕ) (fs : Keyed) → IsDistinct bytes_eq (keys_of fs) → IsDistinct bytes_eq (keys_of (remove_entry (bytes_eq k) fs))
unfolding IsDistinct
distinct_removed k [] d = d
distinct_removed k (f ∷ fs) d = distinct_by k f fs (bytes_eq k f.0) refl d (distinct_removed k fs d.1)

-- ---- the total number of versions

pub rest_distinct : (e : List ℕ × List Version) (es : Keyed) → IsDistinct bytes_eq (keys_of (e ∷ es)) → IsDistinct bytes_eq (keys_of es)
unfolding IsDistinct
rest_distinct e es d = d.1

pub gone : (e : List ℕ × List Version) (es : Keyed) (k : List ℕ) → IsDistinct bytes_eq (keys_of (e ∷ es)) → bytes_eq k e.0 ≡ true → versions_in es k ≡ []
unfolding IsDistinct
gone e es k d same = ap (λ (o : Option (List Version)). unwrap_or o []) (none_from e.0 k es same d.0)

rest_by : (e : List ℕ × List Version) (es fs : Keyed) (k : List ℕ) (b : Bool) → bytes_eq e.0 k ≡ b → IsDistinct bytes_eq (keys_of (e ∷ es))
    → versions_in (e ∷ es) k ≡ versions_in fs k → versions_in es k ≡ (if bytes_eq e.0 k then [] else versions_in fs k)
rest_by e es fs k true is d same = rw is (gone e es k d (nat_list_eq_equiv.symm k e.0 ∙ is))
rest_by e es fs k false is d same =
    let other : bytes_eq k e.0 ≡ false = nat_list_eq_equiv.symm k e.0 ∙ is in
    let at = rw other at same in
    rw is at

total_none : (fs : Keyed) → IsDistinct bytes_eq (keys_of fs) → ((k : List ℕ) → [] ≡ versions_in fs k) → total fs ≡ 0
total_none [] d none = refl
total_none (f ∷ fs) d none =
    let first : [] ≡ f.1 = rw (key_itself f.0) at (none f.0) in
    let rest : total fs ≡ 0 = total_none fs (rest_distinct f fs d) (λ k. rest_empty f fs k (bytes_eq k f.0) refl d (none k)) in
    let long : 0 ≡ length f.1 = ap (λ (vs : List Version). length vs) first in
    omega (arith, rest, long)
  where
    rest_empty : (f : List ℕ × List Version) (fs : Keyed) (k : List ℕ) (b : Bool) → bytes_eq k f.0 ≡ b
        → IsDistinct bytes_eq (keys_of (f ∷ fs)) → [] ≡ versions_in (f ∷ fs) k → [] ≡ versions_in fs k
    rest_empty f fs k true is d same = sym (gone f fs k d is)
    rest_empty f fs k false is d same = rw is at same

pub total_same : (es fs : Keyed) → IsDistinct bytes_eq (keys_of es) → IsDistinct bytes_eq (keys_of fs)
    → ((k : List ℕ) → versions_in es k ≡ versions_in fs k) → total es ≡ total fs
total_same [] fs d f same = sym (total_none fs f same)
total_same (e ∷ es) fs d f same =
    let others = remove_entry (bytes_eq e.0) fs in
    let rest : total es ≡ total others =
    total_same es others (rest_distinct e es d) (distinct_removed e.0 fs f)
    (λ k. rest_by e es fs k (bytes_eq e.0 k) refl d (same k) ∙ sym (versions_removed e.0 k fs f)) in
    let here : e.1 ≡ versions_in fs e.0 = rw (key_itself e.0) at (same e.0) in
    let whole = total_removed e.0 fs in
    let long : length e.1 ≡ length (versions_in fs e.0) = ap (λ (vs : List Version). length vs) here in
    omega (arith, rest, whole, long)
