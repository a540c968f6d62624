-- The keys that have a value at a timestamp, as a store.
use Rattle.std.proofs.Common.{◌≡◌, ℕ, Bool, true, false, List, [], ◌∷◌, None, unwrap_or, refl, ap, ◌∙◌}
use Rattle.std.specs.Prelude.{ℤ}
use Rattle.std.specs.Map.{lookup, keys_of}
use Rattle.std.specs.List.{AllByRecursion, IsDistinct}
use Rattle.std.specs.Str.{bytes_eq}
use Rattle.std.specs.Cmp.Lexicographic.{nat_list_eq_equiv}
use Rattle.bohm_types.specs.declared.cell.Cell.{Cell}
use Rattle.bohm_types.specs.declared.cell.Cell.TheVariants.{Absent, Present}
use Rattle.bohm_txn.specs.Meaning.{number_in}
use Rattle.bohm_txn.specs.Stores.{cell_of, cell_in, store_of}
use Rattle.bohm_store.specs.declared.version.Version.{Version}
use Rattle.bohm_store.specs.Versions.{cell_at}
use Rattle.bohm_store.specs.Chains.{cell_entry, timeline_entries_at}
use Rattle.bohm_txn.proofs.ForCallers.{get-store_of}

-- ---- the listed keys are distinct

all_pick : (P : List ℕ → Type 0) (k : List ℕ) (c : Cell) (rest : List (List ℕ × ℤ)) → P k → AllByRecursion P (keys_of rest)
    → AllByRecursion P (keys_of (cell_entry k c rest))
all_pick P k Absent rest p h = h
all_pick P k (Present z) rest p h = (p, h)

all_held : (P : List ℕ → Type 0) (ts : ℕ) (es : List (List ℕ × List Version)) → AllByRecursion P (keys_of es)
    → AllByRecursion P (keys_of (timeline_entries_at ts es))
all_held P ts [] h = h
all_held P ts (e ∷ es) h = all_pick P e.0 (cell_at ts e.1 Absent) (timeline_entries_at ts es) h.0 (all_held P ts es h.1)

distinct_pick : (k : List ℕ) (c : Cell) (rest : List (List ℕ × ℤ)) → AllByRecursion (λ y. bytes_eq k y ≡ false) (keys_of rest)
    → IsDistinct bytes_eq (keys_of rest) → IsDistinct bytes_eq (keys_of (cell_entry k c rest))
unfolding IsDistinct
distinct_pick k Absent rest a h = h
distinct_pick k (Present z) rest a h = (a, h)

pub distinct_held : (ts : ℕ) (es : List (List ℕ × List Version)) → IsDistinct bytes_eq (keys_of es) → IsDistinct bytes_eq (keys_of (timeline_entries_at ts es))
unfolding IsDistinct
distinct_held ts [] h = h
distinct_held ts (e ∷ es) h =
    distinct_pick e.0 (cell_at ts e.1 Absent) (timeline_entries_at ts es) (all_held (λ y. bytes_eq e.0 y ≡ false) ts es h.0) (distinct_held ts es h.1)

-- ---- the entry of a key

pub none_from : {X : Type 0} (x k : List ℕ) (es : List (List ℕ × X)) → bytes_eq k x ≡ true
    → AllByRecursion (λ y. bytes_eq x y ≡ false) (keys_of es) → lookup (bytes_eq k) es ≡ None
none_from x k [] same h = refl
none_from x k (e ∷ es) same h =
    let other : bytes_eq k e.0 ≡ false = nat_list_eq_equiv.congr k x e.0 same ∙ h.0 in
    rw other (none_from x k es same h.1)

held_by : (ts : ℕ) (k : List ℕ) (e : List ℕ × List Version) (es : List (List ℕ × List Version)) (c : Cell) → cell_at ts e.1 Absent ≡ c
    → (b : Bool) → bytes_eq k e.0 ≡ b
    → (bytes_eq k e.0 ≡ true → lookup (bytes_eq k) es ≡ None)
    → lookup (bytes_eq k) (timeline_entries_at ts es) ≡ number_in (cell_at ts (unwrap_or (lookup (bytes_eq k) es) []) Absent)
    → lookup (bytes_eq k) (timeline_entries_at ts (e ∷ es)) ≡ number_in (cell_at ts (unwrap_or (lookup (bytes_eq k) (e ∷ es)) []) Absent)
held_by ts k e es (Present z) at true same none h = rw (at, same, at) refl
held_by ts k e es Absent at true same none h = let gone = none same in let more = rw gone at h in rw (at, same, at) more
held_by ts k e es (Present z) at false same none h = rw (at, same) h
held_by ts k e es Absent at false same none h = rw (at, same) h

lookup_held : (ts : ℕ) (k : List ℕ) (es : List (List ℕ × List Version)) → IsDistinct bytes_eq (keys_of es)
    → lookup (bytes_eq k) (timeline_entries_at ts es) ≡ number_in (cell_at ts (unwrap_or (lookup (bytes_eq k) es) []) Absent)
unfolding IsDistinct
lookup_held ts k [] h = refl
lookup_held ts k (e ∷ es) h =
    held_by ts k e es (cell_at ts e.1 Absent) refl (bytes_eq k e.0) refl (λ same. none_from e.0 k es same h.0) (lookup_held ts k es h.1)

cell_again : (c : Cell) → cell_of (number_in c) ≡ c
cell_again Absent = refl
cell_again (Present z) = refl

-- in the listed store each key has the cell that its versions give at the timestamp
pub cell_held : (ts : ℕ) (k : List ℕ) (es : List (List ℕ × List Version)) → IsDistinct bytes_eq (keys_of es)
    → cell_in (store_of (timeline_entries_at ts es)) k ≡ cell_at ts (unwrap_or (lookup (bytes_eq k) es) []) Absent
cell_held ts k es h =
    ap cell_of (get-store_of (timeline_entries_at ts es) k ∙ lookup_held ts k es h) ∙ cell_again (cell_at ts (unwrap_or (lookup (bytes_eq k) es) []) Absent)
