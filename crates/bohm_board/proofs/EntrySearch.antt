-- A search in entries with rising keys finds the key's entry, or that no entry has the key.
use Rattle.std.proofs.Common.{◌≡◌, ℕ, zero, suc, ◌<◌, List, [], ◌∷◌, length, get_or, true, false, cond}
use Rattle.std.proofs.Common.{Result, Ok, Err, Some, ⊎_elim, refl, sym, subst, ap, ◌∙◌, add-one, arith}
use Rattle.std.specs.Option.{option_map}
use Rattle.std.specs.Result.{IfOk, OnErr}
use Rattle.std.specs.List.{slice_get, AllByRecursion, IsDistinct}
use Rattle.std.specs.declared.cmp.Ordering.{Ordering}
use Rattle.std.specs.declared.cmp.Ordering.TheVariants.{Less, Equal, Greater}
use Rattle.std.specs.Ordering.{nat_cmp, is_lt}
use Rattle.std.specs.Str.{bytes_eq}
use Rattle.std.specs.Cmp.Lexicographic.{slice_cmp, nat_list_cmp_total}
use Rattle.std.specs.List.Sorted.{IsBinarySearchResult, IsSearchInRange, IsSortedBy}
use Rattle.std.proofs.lemmas.List.Sorted.{searchable_from_sorted}
use Rattle.std.proofs.lemmas.Bool.{and_parts, cases_lt, or_parts}
use Rattle.std.proofs.lemmas.Map.Keys.{IsDistinct-head, IsDistinct-tail}
use Rattle.std.proofs.lemmas.Option.{same_Some, slice_get-map, slice_get-get_or}
use Rattle.std.proofs.lemmas.Slice.Eq.{bytes_eq-Decides}
use Rattle.bohm_types.specs.declared.cell.Cell.{Cell}
use Rattle.bohm_types.specs.declared.cell.Cell.TheVariants.{Absent}
use Rattle.bohm_types.specs.Keys.{is_among, rising, rises_from}
use Rattle.bohm_txn.specs.Meaning.{newest}
use Rattle.bohm_txn.proofs.ForCallers.{no_fall, other_key, same_at}
use Rattle.bohm_board.specs.Bases.{keys_of}

abbrev pub Entry : Type 0
Entry = List ℕ × Cell

abbrev pub key_cmp : List ℕ → List ℕ → Ordering
key_cmp = slice_cmp nat_cmp

-- how an entry's key compares with a key
abbrev pub against : List ℕ → Entry → Ordering
against k e = key_cmp e.0 k

equal_at : (a b : List ℕ) → key_cmp a b ≡ Equal → bytes_eq a b ≡ true
equal_at a b e = same_at a b Equal e

-- ---- results of a search

steps : (e : Entry) (es : List Entry) → rises_from e.0 (keys_of es) ≡ true → (j : ℕ) (d : Entry) → suc j < length (e ∷ es)
    → is_lt (key_cmp (get_or (e ∷ es) j d).0 (get_or (e ∷ es) (suc j) d).0) ≡ true
steps e [] up j d l = absurd (omega arith)
steps e (n ∷ ns) up zero d l = (and_parts (is_lt (key_cmp e.0 n.0)) (rises_from n.0 (keys_of ns)) up).0
steps e (n ∷ ns) up (suc j) d l = steps n ns ((and_parts (is_lt (key_cmp e.0 n.0)) (rises_from n.0 (keys_of ns)) up).1) j d (omega arith)

sorted : (es : List Entry) → rising (keys_of es) ≡ true → IsSortedBy (λ a b. is_lt (key_cmp a.0 b.0)) es
sorted [] up = λ k d a l. absurd (omega arith)
sorted (e ∷ es) up = λ k d a l. subst (λ n. is_lt (key_cmp (get_or (e ∷ es) n d).0 (get_or (e ∷ es) k d).0) ≡ false) (sym (add-one k))
    (no_fall (get_or (e ∷ es) k d).0 (get_or (e ∷ es) (suc k) d).0 (steps e es up k d (omega arith)))

none_has : (es : List Entry) (k : List ℕ) → ((i : ℕ) (d : Entry) → i < length es → bytes_eq (get_or es i d).0 k ≡ false) → is_among (keys_of es) k ≡ false
none_has [] k h = refl
none_has (e ∷ es) k h = rw (h 0 e (omega arith)) (none_has es k (λ i d l. h (suc i) d (omega arith)))

pub searched_none : (es : List Entry) (k : List ℕ) (r : Result ℕ ℕ) → rising (keys_of es) ≡ true → IsBinarySearchResult (against k) es r
    → OnErr r (is_among (keys_of es) k ≡ false)
searched_none es k (Ok i) up h = tt
searched_none es k (Err i) up h =
    let parted = h (searchable_from_sorted nat_list_cmp_total (λ (e : Entry). e.0) es k (sorted es up)) in
    none_has es k (λ j d below. ⊎_elim
    (λ early. same_at (get_or es j d).0 k Less (parted.0 j d (omega arith) early))
    (λ late. same_at (get_or es j d).0 k Greater (parted.1 j d late below))
    (cases_lt j i))

pub searched_some : (es : List Entry) (k : List ℕ) (r : Result ℕ ℕ) → IsSearchInRange r (length es) → IsBinarySearchResult (against k) es r
    → IfOk r (λ i. slice_get (keys_of es) i ≡ Some k)
searched_some es k (Ok i) inside h =
    let x : Entry = get_or es i ([], Absent) in
    let same : x.0 ≡ k = (bytes_eq-Decides x.0 k).0 (equal_at x.0 k (h ([], Absent))) in
    slice_get-map (λ (e : Entry). e.0) es i ∙ ap (option_map (λ (e : Entry). e.0)) (slice_get-get_or es i ([], Absent) inside) ∙ ap (λ y. Some y) same
searched_some es k (Err i) inside h = tt

-- ---- a key's newest cell, with an entry and without

pub newest_missing : (es : List Entry) (k : List ℕ) (before : Cell) → is_among (keys_of es) k ≡ false → newest es k before ≡ before
newest_missing [] k before h = refl
newest_missing (e ∷ es) k before h =
    let (first, rest) = or_parts (bytes_eq e.0 k) (is_among (keys_of es) k) h in
    rw first (newest_missing es k before rest)

pub none_equal : (ks : List (List ℕ)) (k : List ℕ) → AllByRecursion (λ y. bytes_eq k y ≡ false) ks → is_among ks k ≡ false
none_equal [] k h = refl
none_equal (x ∷ ks) k h = rw (other_key k x h.0) (none_equal ks k h.1)

at_equal : (es : List Entry) (i : ℕ) (k : List ℕ) (before : Cell) (x : Entry) → IsDistinct bytes_eq (keys_of es) → slice_get es i ≡ Some x → x.0 ≡ k
    → newest es k before ≡ x.1
at_equal [] i k before x apart at is = absurd cc
at_equal (e ∷ es) zero k before x apart at is =
    let first : e ≡ x = same_Some e x at in
    let key : e.0 ≡ k = ap (λ (y : Entry). y.0) first ∙ is in
    let here : bytes_eq e.0 k ≡ true = (bytes_eq-Decides e.0 k).1 key in
    let none : is_among (keys_of es) k ≡ false =
    subst (λ (z : List ℕ). is_among (keys_of es) z ≡ false) key (none_equal (keys_of es) e.0 (IsDistinct-head bytes_eq e.0 (keys_of es) apart)) in
    rw here (newest_missing es k e.1 none ∙ ap (λ (y : Entry). y.1) first)
at_equal (e ∷ es) (suc i) k before x apart at is = at_equal es i k (cond (bytes_eq e.0 k) e.1 before) x (IsDistinct-tail bytes_eq e.0 (keys_of es) apart) at is

pub newest_there : (es : List Entry) (i : ℕ) (k : List ℕ) (before : Cell) (x : Entry) → IsDistinct bytes_eq (keys_of es) → slice_get es i ≡ Some x
    → slice_get (keys_of es) i ≡ Some k → newest es k before ≡ x.1
newest_there es i k before x apart at key =
    let same : x.0 ≡ k = same_Some x.0 k (ap (option_map (λ (e : Entry). e.0)) (sym at) ∙ sym (slice_get-map (λ (e : Entry). e.0) es i) ∙ key) in
    at_equal es i k before x apart at same
