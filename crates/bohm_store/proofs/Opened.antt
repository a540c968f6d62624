-- The history that a starting store opens, by the numbers of keys.
use Rattle.std.proofs.Common.{◌≡◌, ℕ, suc, ◌+◌, ◌<◌, ◌≤◌, ◌∙◌, Bool, true, false, List, [], ◌∷◌}
use Rattle.std.proofs.Common.{◌++◌, length, map, take, get_or, refl, sym, ap, ⊎_elim, arith, nat_le}
use Rattle.std.specs.Prelude.{ℤ, pos}
use Rattle.std.specs.Map.{lookup}
use Rattle.std.specs.Str.{bytes_eq}
use Rattle.std.proofs.lemmas.Bool.{cases_lt}
use Rattle.std.proofs.lemmas.Bool.Decides.{nat_tests}
use Rattle.std.specs.List.{list_any}
use Rattle.std.proofs.lemmas.List.{get_or-map, get_or_past, length-map, map_more, take-map}
use Rattle.std.proofs.lemmas.List.Elements.{All-nil, All-cons}
use Rattle.bohm_types.specs.declared.cell.Cell.TheVariants as cells
use Rattle.bohm_types.specs.declared.cell.Cell.{Cell}
use Rattle.bohm_types.specs.Keys.{is_among, names_of, rising}
use Rattle.bohm_log.specs.Interning.{with_name}
use Rattle.bohm_txn.specs.Stores.{cell_in, cell_of, store_of}
use Rattle.bohm_txn.proofs.ForCallers.{get-store_of, none_before, rising_apart}
use Rattle.bohm_store.specs.declared.version.Version.{Version}
use Rattle.bohm_store.specs.Versions.{Rises, cell_at, total, versions_in}
use Rattle.bohm_store.specs.Chains.{UpTo, starting_versions}
use Rattle.bohm_hints.specs.declared.held.Held.{Held}
use Rattle.bohm_hints.specs.declared.held.Held.TheVariants.{Never, Present}
use Rattle.bohm_store.specs.declared.older.Older.{Older}
use Rattle.bohm_store.specs.Held.{held_versions, held_at}
use Rattle.bohm_store.specs.Numbered.{IsNumbered, named}
use Rattle.bohm_store.proofs.Linked.{single_at}
use Rattle.bohm_board.proofs.ForCallers.{member_among}

abbrev pub first_held : List ℕ × ℤ → Held
first_held e = Present 0 e.1

-- the only version of a starting entry is ascending and begins at or below any timestamp
started : (ts : ℕ) (v : Held) (e : List ℕ × ℤ) → v ≡ first_held e → UpTo ts (held_versions v) × Rises (held_versions v)
started ts v e is = rw is (
  All-cons (λ (w : Version). w.begin ≤ ts) (record { begin = 0; cell = cells.Present e.1 }) [] (omega arith)
      (All-nil (λ (w : Version). w.begin ≤ ts)),
  (All-nil (λ (w : Version). 0 < w.begin), tt),
)

started_at : (ts : ℕ) (es : List (List ℕ × ℤ)) (n : ℕ) → UpTo ts (held_at (map first_held es) n) × Rises (held_at (map first_held es) n)
started_at ts es n = ⊎_elim
    (λ lt. let d : List ℕ × ℤ = ([], pos 0) in started ts (get_or (map first_held es) n Never) (get_or es n d) (get_or-map first_held es n d Never lt))
    (λ le. (let past : get_or (map first_held es) n Never ≡ Never = get_or_past (map first_held es) n Never (omega (arith, length-map es first_held)) in
    rw past (All-nil (λ (w : Version). w.begin ≤ ts), tt)))
    (cases_lt n (length es))

pub opened : (ts : ℕ) (es : List (List ℕ × ℤ)) (items : List Held) → items ≡ map first_held es
    → IsNumbered (record { floor = ts; top = ts; newest = items; older = [] })
opened ts es items is = rw is (record {
  ordered = omega arith;
  low = λ n. (started_at ts es n).0;
  rising = λ n. (started_at ts es n).1;
  linked = λ n. single_at (map first_held es) n;
  climbs = tt;
  due = All-nil (λ (o : Older). ts < o.end);
})

-- ---- the versions of the store's keys

named_by : (f : ℕ → List Version) (from : ℕ) (e : List ℕ × ℤ) (es : List (List ℕ × ℤ)) (k : List ℕ) (b : Bool) → bytes_eq k e.0 ≡ b
    → f from ≡ record { begin = 0; cell = cells.Present e.1 } ∷ []
    → versions_in (named f (from + 1) (names_of es)) k ≡ starting_versions (cell_of (lookup (bytes_eq k) es))
    → versions_in (named f from (names_of (e ∷ es))) k ≡ starting_versions (cell_of (lookup (bytes_eq k) (e ∷ es)))
named_by f from e es k true is at more = rw is at
named_by f from e es k false is at more = rw is more

named_entries : (f : ℕ → List Version) (from : ℕ) (es : List (List ℕ × ℤ)) (k : List ℕ)
    → ((i : ℕ) (d : List ℕ × ℤ) → i < length es → f (from + i) ≡ record { begin = 0; cell = cells.Present (get_or es i d).1 } ∷ [])
    → versions_in (named f from (names_of es)) k ≡ starting_versions (cell_of (lookup (bytes_eq k) es))
named_entries f from [] k at = refl
named_entries f from (e ∷ es) k at =
    let here : from + 0 ≡ from = omega arith in
    let first = rw here at (at 0 e (omega arith)) in
    named_by f from e es k (bytes_eq k e.0) refl first
    (named_entries f (from + 1) es k (λ i d lt. (let next : (from + 1) + i ≡ from + suc i = omega arith in rw next (at (suc i) d (omega arith)))))

-- if each key has one version, there are as many versions as keys
counted : (f : ℕ → List Version) (from : ℕ) (es : List (List ℕ × ℤ)) → ((i : ℕ) (d : List ℕ × ℤ) → i < length es
    → f (from + i) ≡ record { begin = 0; cell = cells.Present (get_or es i d).1 } ∷ []) → total (named f from (names_of es)) ≡ length es
counted f from [] at = refl
counted f from (e ∷ es) at =
    let here : from + 0 ≡ from = omega arith in
    let one : length (f from) ≡ 1 = ap length (rw here at (at 0 e (omega arith))) in
    let rest : total (named f (from + 1) (names_of es)) ≡ length es =
    counted f (from + 1) es (λ i d lt. (let next : (from + 1) + i ≡ from + suc i = omega arith in rw next (at (suc i) d (omega arith)))) in
    omega (arith, one, rest)

pub opened_count : (es : List (List ℕ × ℤ)) (items : List Held) → items ≡ map first_held es
    → total (named (λ n. [] ++ held_at items n) 0 (names_of es)) ≡ length es
opened_count es items is =
    counted (λ n. [] ++ held_at items n) 0 es
    (λ i d lt. (let e : 0 + i ≡ i = omega arith in rw (e, is) (ap held_versions (get_or-map first_held es i d Never lt))))

pub opened_versions : (es : List (List ℕ × ℤ)) (items : List Held) (k : List ℕ) → items ≡ map first_held es
    → versions_in (named (λ n. [] ++ held_at items n) 0 (names_of es)) k ≡ starting_versions (cell_in (store_of es) k)
opened_versions es items k is =
    named_entries (λ n. [] ++ held_at items n) 0 es k
    (λ i d lt. (let e : 0 + i ≡ i = omega arith in rw (e, is) (ap held_versions (get_or-map first_held es i d Never lt))))
    ∙ ap (λ o. starting_versions (cell_of o)) (sym (get-store_of es k))

-- ---- the keys of the starting store

-- the next key of an ascending list isn't among the earlier keys, so the key gets the next number
pub next_named : (es : List (List ℕ × ℤ)) (i : ℕ) (e : List ℕ × ℤ) → rising (names_of es) ≡ true → i < length es → e ≡ get_or es i e
    → with_name (names_of (take i es)) e.0 ≡ names_of (take (i + 1) es)
next_named es i e rises lt is =
    let ks = names_of es in
    let taken : names_of (take i es) ≡ take i ks = sym (take-map (λ (x : List ℕ × ℤ). x.0) i es) in
    let k : get_or ks i e.0 ≡ e.0 = get_or-map (λ (x : List ℕ × ℤ). x.0) es i e e.0 lt ∙ ap (λ (x : List ℕ × ℤ). x.0) (sym is) in
    let low : i < length ks = omega (arith, lt, length-map es (λ (x : List ℕ × ℤ). x.0)) in
    let none : is_among (take i ks) e.0 ≡ false = ap (λ (x : List ℕ). is_among (take i ks) x) (sym k) ∙ none_before ks i e.0 low (rising_apart ks rises) in
    let new : list_any (bytes_eq e.0) (names_of (take i es)) ≡ false = ap (list_any (bytes_eq e.0)) taken ∙ member_among (take i ks) e.0 ∙ none in
    let more : names_of (take (i + 1) es) ≡ names_of (take i es) ++ e.0 ∷ [] =
    map_more (λ (x : List ℕ × ℤ). x.0) es i e lt ∙ ap (λ (x : List ℕ × ℤ). names_of (take i es) ++ x.0 ∷ []) (sym is) in
    rw new (sym more)

pub started_past : (ts : ℕ) (c : Cell) → cell_at ts (starting_versions c) cells.Absent ≡ c
started_past ts cells.Absent = refl
started_past ts (cells.Present z) = let here : nat_le 0 ts ≡ true = grind (arith, nat_tests) in rw here refl
