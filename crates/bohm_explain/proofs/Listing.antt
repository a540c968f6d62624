-- The entries of a log's tallies, listed as heats, are the heats of the log's keys.
use Rattle.std.proofs.Common.{◌≡◌, ℕ, zero, suc, Bool, true, false, List, [], ◌∷◌, map, Some, unwrap_or, is_some, All, refl, sym, ap, ◌∙◌, arith}
use Rattle.std.specs.List.{IsDistinct, slice_get}
use Rattle.std.specs.Map.{keys_of, lookup}
use Rattle.std.specs.HashMap.{HashMap, IsUnique, get}
use Rattle.std.specs.Str.{bytes_eq}
use Rattle.std.specs.Cmp.Lexicographic.{nat_list_eq_equiv}
use Rattle.std.proofs.lemmas.Map.Entries.{lookup_from_place}
use Rattle.bohm_types.specs.Txn.{Txn}
use Rattle.bohm_types.specs.Keys.{is_among}
use Rattle.bohm_place.specs.Shares.{AreDistinct}
use Rattle.bohm_explain.specs.declared.heat.Heat.{Heat}
use Rattle.bohm_explain.specs.declared.tallies.Tally.{Tally}
use Rattle.bohm_explain.specs.Heats as heats
use Rattle.bohm_explain.specs.Heats.{AreHeatsOf, Chained, chain_of, heat_of, readers_of, writers_of}
use Rattle.bohm_explain.specs.Tallies.{IsTallied, nothing}
use Rattle.bohm_board.proofs.ForCallers.{none_equal}

abbrev Entries : Type 0
Entries = List (List ℕ × Tally)

abbrev pub entry_heat : List ℕ × Tally → Heat
entry_heat e = record { key = e.0; writers = e.1.writers; readers = e.1.readers; chain = e.1.chain }

-- ---- the keys of the entries

keys_same : (es : Entries) → heats.keys_of (map entry_heat es) ≡ keys_of es
keys_same [] = refl
keys_same (e ∷ es) = ap (λ (ks : List (List ℕ)). e.0 ∷ ks) (keys_same es)

distinct : (ks : List (List ℕ)) → IsDistinct bytes_eq ks → AreDistinct ks
unfolding IsDistinct
distinct [] h = tt
distinct (k ∷ ks) h = (none_equal ks k h.0, distinct ks h.1)

listed_by : (k : List ℕ) (e : List ℕ × Tally) (es : Entries) (b : Bool) → bytes_eq k e.0 ≡ b → is_among (keys_of es) k ≡ is_some (lookup (bytes_eq k) es)
    → is_among (keys_of (e ∷ es)) k ≡ is_some (lookup (bytes_eq k) (e ∷ es))
listed_by k e es true is rest = rw (is, nat_list_eq_equiv.symm e.0 k ∙ is) refl
listed_by k e es false is rest = rw (is, nat_list_eq_equiv.symm e.0 k ∙ is) rest

listed : (k : List ℕ) (es : Entries) → is_among (keys_of es) k ≡ is_some (lookup (bytes_eq k) es)
listed k [] = refl
listed k (e ∷ es) = listed_by k e es (bytes_eq k e.0) refl (listed k es)

-- ---- the heat of each entry

each : (P : Heat → Type 0) (es : Entries) → ((i : ℕ) (k : List ℕ) (t : Tally) → slice_get es i ≡ Some (k, t) → P (entry_heat (k, t)))
    → All P (map entry_heat es)
each P [] h i d lt = absurd (omega arith)
each P (e ∷ es) h zero d lt = h 0 e.0 e.1 refl
each P (e ∷ es) h (suc i) d lt = each P es (λ j k t at. h (suc j) k t at) i d (omega arith)

right : {S : Type 0} (log : List Txn) (batches : List Chained) (m : HashMap (List ℕ) Tally S) → IsTallied log batches m → IsUnique bytes_eq m
    → (i : ℕ) (k : List ℕ) (t : Tally) → slice_get m.entries i ≡ Some (k, t) → entry_heat (k, t) ≡ heat_of log batches k
right log batches m all unique i k t at =
    let found : get bytes_eq m k ≡ Some t = lookup_from_place nat_list_eq_equiv m.entries i k t unique at in
    let same : t ≡ record { writers = writers_of k log; readers = readers_of k log; chain = chain_of k batches } =
    sym (ap (λ o. unwrap_or o nothing) found) ∙ all.counts k in
    ap (λ (u : Tally). entry_heat (k, u)) same

pub are_heats : {S : Type 0} (log : List Txn) (batches : List Chained) (m : HashMap (List ℕ) Tally S) (out : List Heat) → IsTallied log batches m
    → IsUnique bytes_eq m → out ≡ map entry_heat m.entries → AreHeatsOf log batches out
are_heats log batches m out all unique is = rw is (record {
  distinct = rw (keys_same m.entries) (distinct (keys_of m.entries) unique);
  listed = λ k. ap (λ (ks : List (List ℕ)). is_among ks k) (keys_same m.entries) ∙ (listed k m.entries ∙ all.listed k);
  right = each (λ h. h ≡ heat_of log batches h.key) m.entries (right log batches m all unique);
})
