-- Where the keys of a transaction stand among all declared keys.
use Rattle.std.proofs.Common.{◌≡◌, ℕ, zero, suc, ◌+◌, ◌≤◌, List, [], ◌∷◌, ◌++◌, length, take, slice_get, Some, zero-add, sym, subst, ap, ◌∙◌, arith, length-append}
use Rattle.std.proofs.lemmas.List.{take_more}
use Rattle.std.proofs.lemmas.Option.{get_or_from_slice_get, same_Some, slice_get_within}
use Rattle.bohm_types.specs.declared.cell.Cell.TheVariants.{Absent}
use Rattle.bohm_types.specs.Txn.{Txn}
use Rattle.bohm_txn.specs.Meaning.{newest}
use Rattle.bohm_place.specs.Noting.{AreNoted}
use Rattle.bohm_place.specs.Plans.{Planned}
use Rattle.bohm_board.specs.declared.base.Base.{Base}
use Rattle.bohm_board.specs.declared.base.Base.TheVariants.{Listed, Top}
use Rattle.bohm_board.specs.Bases.{declared_keys, keys_of, AreSteady, IsBaseFor}
use Rattle.bohm_board.proofs.SerialSlots.{get_left, get_right}
use Rattle.std.specs.List.{IsDistinct}
use Rattle.std.specs.Option.{option_map}
use Rattle.std.specs.Str.{bytes_eq}
use Rattle.std.proofs.lemmas.Option.{slice_get-map}
use Rattle.bohm_board.proofs.EntrySearch.{Entry, newest_there}

-- how many keys the transactions before one declare
abbrev pub before : List Txn → ℕ → ℕ
before ts i = length (declared_keys (take i ts))

pub read_placed : (ts : List Txn) (i : ℕ) (x : Txn) → slice_get ts i ≡ Some x → (n : ℕ) (k : List ℕ) → slice_get x.reads n ≡ Some k
    → slice_get (declared_keys ts) (before ts i + n) ≡ Some k
read_placed [] i x at n k here = absurd cc
read_placed (t ∷ ts) zero x at n k here =
    let same : t ≡ x = same_Some t x at in
    let mine : slice_get t.reads n ≡ Some k = ap (λ (y : Txn). slice_get y.reads n) same ∙ here in
    rw zero-add (get_left (t.reads ++ t.writes) (declared_keys ts) n k (get_left t.reads t.writes n k mine))
read_placed (t ∷ ts) (suc i) x at n k here =
    let own = t.reads ++ t.writes in
    let rest = read_placed ts i x at n k here in
    get_right own (declared_keys ts) (length (own ++ declared_keys (take i ts)) + n) (before ts i + n)
    (omega (arith, length-append own (declared_keys (take i ts)))) ∙ rest

pub write_placed : (ts : List Txn) (i : ℕ) (x : Txn) → slice_get ts i ≡ Some x → (n : ℕ) (k : List ℕ) → slice_get x.writes n ≡ Some k
    → slice_get (declared_keys ts) ((before ts i + length x.reads) + n) ≡ Some k
write_placed [] i x at n k here = absurd cc
write_placed (t ∷ ts) zero x at n k here =
    let same : t ≡ x = same_Some t x at in
    let mine : slice_get t.writes n ≡ Some k = ap (λ (y : Txn). slice_get y.writes n) same ∙ here in
    let long : length t.reads ≡ length x.reads = ap (λ (y : Txn). length y.reads) same in
    rw zero-add (get_left (t.reads ++ t.writes) (declared_keys ts) (length x.reads + n) k
    (get_right t.reads t.writes (length x.reads + n) n (omega (arith, long)) ∙ mine))
write_placed (t ∷ ts) (suc i) x at n k here =
    let own = t.reads ++ t.writes in
    let rest = write_placed ts i x at n k here in
    get_right own (declared_keys ts) ((length (own ++ declared_keys (take i ts)) + length x.reads) + n) ((before ts i + length x.reads) + n)
    (omega (arith, length-append own (declared_keys (take i ts)))) ∙ rest

declared_push : (ts : List Txn) (x : Txn) → length (declared_keys (ts ++ x ∷ [])) ≡ (length (declared_keys ts) + length x.reads) + length x.writes
declared_push [] x = omega (arith, length-append (x.reads ++ x.writes) [], length-append x.reads x.writes)
declared_push (t ∷ ts) x =
    let own = t.reads ++ t.writes in
    omega (arith, declared_push ts x, length-append own (declared_keys ts), length-append own (declared_keys (ts ++ x ∷ [])))

-- the keys of a transaction follow those of the transactions before it
pub next_before : (ts : List Txn) (i : ℕ) (x : Txn) → slice_get ts i ≡ Some x → before ts (i + 1) ≡ (before ts i + length x.reads) + length x.writes
next_before ts i x here =
    ap (λ (ys : List Txn). length (declared_keys ys))
    (take_more ts i x (slice_get_within ts i x here) ∙ ap (λ (t : Txn). take i ts ++ t ∷ []) (get_or_from_slice_get ts i x x here))
    ∙ declared_push (take i ts) x

-- they are among all declared keys
pub before_inside : (ts : List Txn) (i : ℕ) (x : Txn) → slice_get ts i ≡ Some x
    → (before ts i + length x.reads) + length x.writes ≤ length (declared_keys ts)
before_inside [] i x at = absurd cc
before_inside (t ∷ ts) zero x at =
    let same : t ≡ x = same_Some t x at in
    omega (
      arith,
      length-append (t.reads ++ t.writes) (declared_keys ts),
      length-append t.reads t.writes,
      ap (λ (y : Txn). length y.reads) same,
      ap (λ (y : Txn). length y.writes) same,
    )
before_inside (t ∷ ts) (suc i) x at =
    let own = t.reads ++ t.writes in
    omega (
      arith,
      before_inside ts i x at,
      length-append own (declared_keys (take i ts)),
      length-append own (declared_keys ts),
    )

-- ---- steady entries

pub distinct_steady : (es : List Entry) → IsDistinct bytes_eq (keys_of es) → AreSteady es
distinct_steady es apart i e at =
    let key : slice_get (keys_of es) i ≡ Some e.0 = slice_get-map (λ (x : Entry). x.0) es i ∙ ap (option_map (λ (x : Entry). x.0)) at in
    newest_there es i e.0 Absent e apart at key

pub steady_there : (es : List Entry) (i : ℕ) (k : List ℕ) (x : Entry) → AreSteady es → slice_get es i ≡ Some x → slice_get (keys_of es) i ≡ Some k
    → newest es k Absent ≡ x.1
steady_there es i k x steady at key =
    let same : x.0 ≡ k = same_Some x.0 k (ap (option_map (λ (e : Entry). e.0)) (sym at) ∙ sym (slice_get-map (λ (e : Entry). e.0) es i) ∙ key) in
    ap (λ (n : List ℕ). newest es n Absent) (sym same) ∙ steady i x at

-- the entries of a listed base
abbrev entries_of : Base → List Entry
entries_of (Listed entries) = entries
entries_of (Top t) = []

pub same_listed : (xs ys : List Entry) → Listed xs ≡ Listed ys → xs ≡ ys
same_listed xs ys is = ap entries_of is

-- a base that lists these entries
pub listed_base : (txns : List Txn) (plan : Planned) (es xs : List Entry) → xs ≡ es → AreSteady es → AreNoted txns plan (keys_of es)
    → IsBaseFor txns plan (Listed xs)
listed_base txns plan es xs same steady noted ys is =
    subst (λ (l : List Entry). AreSteady l × AreNoted txns plan (keys_of l)) (sym same ∙ same_listed xs ys is) (steady, noted)
