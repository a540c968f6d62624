-- The entries of a store rise.
use Rattle.std.proofs.Common.{◌≡◌, ℕ, Bool, true, false, List, [], ◌∷◌, refl}
use Rattle.std.specs.Prelude.{ℤ, T, Result, Ok, Err, IfOk}
use Rattle.std.specs.Cmp.Derive.{both_true}
use Rattle.std.specs.Cmp.Lexicographic.{slice_cmp}
use Rattle.std.specs.FinMap.{entries, entries_sorted}
use Rattle.std.specs.FinMap.Entries.{is_sorted, below_all}
use Rattle.std.specs.Ordering.{nat_cmp, is_lt}
use Rattle.std.proofs.lemmas.Bool.{and_parts}
use Rattle.bohm_types.specs.Keys.{rises_from, rising, names_of}
use Rattle.bohm_txn.specs.Stores.{store_of}

is_true : (b : Bool) → T b → b ≡ true
is_true true t = refl
is_true false t = absurd t

rises_behind : (e : List ℕ × ℤ) (es : List (List ℕ × ℤ)) → is_sorted (slice_cmp nat_cmp) (e ∷ es) ≡ true → rises_from e.0 (names_of es) ≡ true
rises_behind e [] sorted = refl
rises_behind e (f ∷ es) sorted =
    let (below, rest) = and_parts (below_all (slice_cmp nat_cmp) e.0 (f ∷ es)) (is_sorted (slice_cmp nat_cmp) (f ∷ es)) sorted in
    let (first, others) = and_parts (is_lt (slice_cmp nat_cmp e.0 f.0)) (below_all (slice_cmp nat_cmp) e.0 es) below in
    both_true first (rises_behind f es rest)

sorted_rise : (es : List (List ℕ × ℤ)) → is_sorted (slice_cmp nat_cmp) es ≡ true → rising (names_of es) ≡ true
sorted_rise [] sorted = refl
sorted_rise (e ∷ es) sorted = rises_behind e es sorted

pub listed_rise : (store : List (List ℕ × ℤ)) → store ≡ entries (store_of store) → rising (names_of store) ≡ true
listed_rise store listed = rw listed (sorted_rise (entries (store_of store)) (is_true _ (entries_sorted (store_of store))))

pub rises_if : {A E : Type 0} (items : A → List (List ℕ × ℤ)) (r : Result A E) → IfOk r (λ v. items v ≡ entries (store_of (items v)))
    → IfOk r (λ v. rising (names_of (items v)) ≡ true)
rises_if items (Ok v) listed = listed_rise (items v) listed
rises_if items (Err e) listed = tt
