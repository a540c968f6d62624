-- The list of keys with their values at a timestamp, in the order of their numbers.
use Rattle.std.proofs.Common.{◌≡◌, ◌≢◌, ℕ, ◌+◌, ◌<◌, ◌≤◌, ◌==◌, ◌∙◌, true, false, List, [], ◌∷◌, ◌++◌, length, drop, get_or}
use Rattle.std.proofs.Common.{slice_set, refl, sym, ap, ⊎_elim, arith, if◌then◌else◌, append_assoc, add-one, drop-cons}
use Rattle.std.specs.Prelude.{ℤ}
use Rattle.std.specs.Map.{keys_of}
use Rattle.std.proofs.lemmas.Bool.{cases_eq}
use Rattle.std.proofs.lemmas.Bool.Decides.{nat_tests}
use Rattle.std.proofs.lemmas.List.{get_or-set_same, get_or-set_other}
use Rattle.bohm_types.specs.declared.cell.Cell.{Cell}
use Rattle.bohm_types.specs.declared.cell.Cell.TheVariants as cells
use Rattle.bohm_store.specs.declared.version.Version.{Version}
use Rattle.bohm_store.specs.Versions.{cell_at}
use Rattle.bohm_store.specs.Chains.{cell_entry, timeline_entries_at}
use Rattle.bohm_hints.specs.declared.held.Held.{Held}
use Rattle.bohm_hints.specs.declared.held.Held.TheVariants.{Never}
use Rattle.bohm_store.specs.Held.{held_at, held_versions}
use Rattle.bohm_store.specs.Numbered.{named}

entry_before : (k : List ℕ) (c : Cell) (rest : List (List ℕ × ℤ)) → cell_entry k c rest ≡ cell_entry k c [] ++ rest
entry_before k cells.Absent rest = refl
entry_before k (cells.Present z) rest = refl

-- listing the next key keeps the invariant: the list and the remaining entries are the whole
pub listed_more : (ts : ℕ) (f : ℕ → List Version) (names : List (List ℕ)) (i : ℕ) (k : List ℕ) (out new whole : List (List ℕ × ℤ))
    → i < length names → get_or names i [] ≡ k → out ++ timeline_entries_at ts (named f i (drop i names)) ≡ whole
    → new ≡ out ++ cell_entry k (cell_at ts (f i) cells.Absent) []
    → new ++ timeline_entries_at ts (named f (i + 1) (drop (i + 1) names)) ≡ whole
listed_more ts f names i k out new whole lt at before is =
    let left : drop i names ≡ k ∷ drop (i + 1) names = rw add-one (drop-cons names i [] lt) ∙ ap (λ (x : List ℕ). x ∷ drop (i + 1) names) at in
    let rest = timeline_entries_at ts (named f (i + 1) (drop (i + 1) names)) in
    ap (λ (xs : List (List ℕ × ℤ)). xs ++ rest) is
    ∙ append_assoc out (cell_entry k (cell_at ts (f i) cells.Absent) []) rest
    ∙ ap (λ (xs : List (List ℕ × ℤ)). out ++ xs) (sym (entry_before k (cell_at ts (f i) cells.Absent) rest))
    ∙ sym (ap (λ (ks : List (List ℕ)). out ++ timeline_entries_at ts (named f i ks)) left)
    ∙ before

-- versions that give the same cells at the timestamp give the same list
pub entries_same : (ts : ℕ) (f g : ℕ → List Version) (from : ℕ) (names : List (List ℕ))
    → ((n : ℕ) → from ≤ n → n < from + length names → cell_at ts (f n) cells.Absent ≡ cell_at ts (g n) cells.Absent)
    → timeline_entries_at ts (named f from names) ≡ timeline_entries_at ts (named g from names)
entries_same ts f g from [] same = refl
entries_same ts f g from (k ∷ names) same =
    rw (same from (omega arith) (omega arith), entries_same ts f g (from + 1) names (λ n low high. same n (omega arith) (omega arith))) refl

pub keys_named : (f : ℕ → List Version) (from : ℕ) (names : List (List ℕ)) → keys_of (named f from names) ≡ names
keys_named f from [] = refl
keys_named f from (k ∷ names) = ap (λ (ks : List (List ℕ)). k ∷ ks) (keys_named f (from + 1) names)

-- an older version that is put back becomes its number's newest version, and no other number changes
pub put_back : (now : List Held) (number n : ℕ) (v : Held) (x : Version) → number < length now → held_versions v ≡ x ∷ []
    → held_at (slice_set now number v) n ≡ (if (number == n) then x ∷ [] else held_at now n)
put_back now number n v x inside is = ⊎_elim
    (λ (same : n ≡ number).
    let yes : (number == n) ≡ true = grind (arith, nat_tests) in
    let at : get_or (slice_set now number v) n Never ≡ v =
    ap (λ (m : ℕ). get_or (slice_set now number v) m Never) same ∙ get_or-set_same now number v Never inside in
    ap held_versions at ∙ is ∙ rw yes refl)
    (λ (other : n ≢ number).
    let no : (number == n) ≡ false = grind (arith, nat_tests) in
    ap held_versions (get_or-set_other now number n v Never other) ∙ rw no refl)
    (cases_eq n number)
