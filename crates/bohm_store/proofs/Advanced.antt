-- The next transaction: the numbers of its keys, their cells, and the versions that it adds.
use Rattle.std.proofs.Common.{◌≡◌, ◌∙◌, ℕ, ◌+◌, ◌<◌, List, [], ◌∷◌, ◌++◌, All, length, map, take, get_or, Some, refl, sym, ap, subst, arith, zero, suc}
use Rattle.std.specs.Prelude.{min}
use Rattle.std.proofs.Common.{append-nil, length-append}
use Rattle.std.specs.List.{IsDistinct, slice_get}
use Rattle.std.specs.Str.{bytes_eq}
use Rattle.std.proofs.lemmas.List.{get_or_append_left, length-map, map-append, take_more}
use Rattle.std.proofs.lemmas.List.Elements.{All-head, All-tail, All-nil, All-cons, All-push, All-weaker}
use Rattle.std.proofs.lemmas.Option.{get_or_from_slice_get, slice_get_within}
use Rattle.bohm_types.specs.declared.cell.Cell.{Cell}
use Rattle.bohm_types.specs.declared.cell.Cell.TheVariants.{Absent}
use Rattle.bohm_types.specs.Txn.{Txn}
use Rattle.bohm_log.specs.Parts.{Begins, name_at}
use Rattle.bohm_store.specs.Writes.{IsRunnable}
use Rattle.bohm_txn.specs.Meaning.{Look}
use Rattle.bohm_txn.specs.Serial.{after}
use Rattle.bohm_store.specs.declared.numbered_write.NumberedWrite.{NumberedWrite}
use Rattle.bohm_store.specs.Versions.{KeyedVersion, cell_at, past}
use Rattle.bohm_store.specs.Numbered.{Numbered, timeline, versions_at}
use Rattle.bohm_store.specs.Writes.{AreBelow, AreNumbersOf, AreTxnWrites, all_txn_writes, named_write, txn_writes, writes_by}
use Rattle.bohm_store.proofs.Kept.{past_named}

-- ---- the numbers of keys

kept_names : (names more : List (List ℕ)) (ns : List ℕ) → All (λ n. n < length names) ns → map (name_at (names ++ more)) ns ≡ map (name_at names) ns
kept_names names more [] below = refl
kept_names names more (n ∷ ns) below =
    let here : name_at (names ++ more) n ≡ name_at names n = get_or_append_left names more [] n (All-head (λ (m : ℕ). m < length names) n ns below) in
    rw (here, kept_names names more ns (All-tail (λ (m : ℕ). m < length names) n ns below)) refl

-- the keys have the same numbers when names are appended
pub numbers_longer : (names names' : List (List ℕ)) (ns : List ℕ) (keys : List (List ℕ)) → Begins names names' → AreNumbersOf names ns keys
    → AreNumbersOf names' ns keys
numbers_longer names names' ns keys (more, e) h =
    let long : length names' ≡ length names + length more = ap length e ∙ length-append names more in
    record {
      below = All-weaker (λ (n : ℕ). n < length names) (λ (n : ℕ). n < length names') (λ n lt. omega (arith, lt, long)) ns h.below;
      named = ap (λ (ks : List (List ℕ)). map (name_at ks) ns) e ∙ kept_names names more ns h.below ∙ h.named;
    }

-- appending a number appends its key
pub numbers_next : (names : List (List ℕ)) (ns : List ℕ) (keys : List (List ℕ)) (n : ℕ) (k : List ℕ) → n < length names → name_at names n ≡ k
    → AreNumbersOf names ns keys → AreNumbersOf names (ns ++ n ∷ []) (keys ++ k ∷ [])
numbers_next names ns keys n k inside is h = record {
  below = All-push (λ (m : ℕ). m < length names) ns n h.below inside;
  named = map-append (name_at names) ns (n ∷ []) ∙ (λ j. h.named j ++ is j ∷ []);
}

-- appending the number of the next key gives the numbers of one more key
pub numbers_more : (names : List (List ℕ)) (ns : List ℕ) (keys : List (List ℕ)) (i n : ℕ) (k : List ℕ) → slice_get keys i ≡ Some k
    → n < length names → name_at names n ≡ k → AreNumbersOf names ns (take i keys) → AreNumbersOf names (ns ++ n ∷ []) (take (i + 1) keys)
numbers_more names ns keys i n k here inside is h =
    let more : take (i + 1) keys ≡ take i keys ++ get_or keys i k ∷ [] = take_more keys i k (slice_get_within keys i k here) in
    let at : get_or keys i k ≡ k = get_or_from_slice_get keys i k k here in
    let all : take i keys ++ k ∷ [] ≡ take (i + 1) keys = sym (more ∙ ap (λ (x : List ℕ). take i keys ++ x ∷ []) at) in
    subst (λ (ks : List (List ℕ)). AreNumbersOf names (ns ++ n ∷ []) ks) all (numbers_next names ns (take i keys) n k inside is h)

pub no_numbers : (names : List (List ℕ)) → AreNumbersOf names [] []
no_numbers names = record { below = All-nil (λ (n : ℕ). n < length names); named = refl }

-- ---- the cells of keys at the top, by number

cells_named : (names : List (List ℕ)) (h : Numbered) (ns : List ℕ) → IsDistinct bytes_eq names → All (λ n. n < length names) ns
    → map (past (timeline names h) h.top) (map (name_at names) ns) ≡ map (λ n. cell_at h.top (versions_at h n) Absent) ns
cells_named names h [] apart below = refl
cells_named names h (n ∷ ns) apart below =
    let here = past_named names h h.top n (name_at names n) apart (All-head (λ (m : ℕ). m < length names) n ns below) refl in
    let rest = cells_named names h ns apart (All-tail (λ (m : ℕ). m < length names) n ns below) in
    λ i. here i ∷ rest i

pub cells_by_number : (names : List (List ℕ)) (h : Numbered) (ns : List ℕ) (keys : List (List ℕ)) → IsDistinct bytes_eq names → AreNumbersOf names ns keys
    → map (past (timeline names h) h.top) keys ≡ map (λ n. cell_at h.top (versions_at h n) Absent) ns
cells_by_number names h ns keys apart are =
    ap (map (past (timeline names h) h.top)) (sym are.named) ∙ cells_named names h ns apart are.below

-- ---- the transaction's writes

writes_below : (count u : ℕ) (ns : List ℕ) (cs : List Cell) → All (λ n. n < count) ns → AreBelow count (writes_by u ns cs)
writes_below count u [] cs below = All-nil (λ (w : NumberedWrite). w.number < count)
writes_below count u (n ∷ ns) [] below = All-nil (λ (w : NumberedWrite). w.number < count)
writes_below count u (n ∷ ns) (c ∷ cs) below =
    All-cons (λ (w : NumberedWrite). w.number < count) (record { number = n; version = record { begin = u; cell = c } }) (writes_by u ns cs)
    (All-head (λ (m : ℕ). m < count) n ns below) (writes_below count u ns cs (All-tail (λ (m : ℕ). m < count) n ns below))

writes_named : (names : List (List ℕ)) (u : ℕ) (look : Look) (ns : List ℕ)
    → map (named_write names) (writes_by u ns (map look (map (name_at names) ns))) ≡ txn_writes u look (map (name_at names) ns)
writes_named names u look [] = refl
writes_named names u look (n ∷ ns) =
    ap (λ (ws : List KeyedVersion). record { begin = u; key = name_at names n; cell = look (name_at names n) } ∷ ws) (writes_named names u look ns)

-- there is one write for each number with a cell
pub writes_many : (u : ℕ) (ns : List ℕ) (cs : List Cell) → length (writes_by u ns cs) ≡ min (length ns) (length cs)
writes_many u [] cs = omega arith
writes_many u (n ∷ ns) [] = omega arith
writes_many u (n ∷ ns) (c ∷ cs) = omega (arith, writes_many u ns cs)

-- the write at an index has the number and the cell at the index
pub write_at : (u : ℕ) (ns : List ℕ) (cs : List Cell) (i : ℕ) (c : Cell) (d : NumberedWrite) → i < length (writes_by u ns cs)
    → c ≡ get_or cs i c → record { number = get_or ns i 0; version = record { begin = u; cell = c } } ≡ get_or (writes_by u ns cs) i d
write_at u [] cs i c d low is = absurd (omega (arith, low))
write_at u (n ∷ ns) [] i c d low is = absurd (omega (arith, low))
write_at u (n ∷ ns) (e ∷ es) zero c d low is = λ j. record { number = n; version = record { begin = u; cell = is j } }
write_at u (n ∷ ns) (e ∷ es) (suc i) c d low is = write_at u ns es i c d (omega (arith, low)) is

pub numbers_long : (names : List (List ℕ)) (ns : List ℕ) (keys : List (List ℕ)) → AreNumbersOf names ns keys → length ns ≡ length keys
numbers_long names ns keys are = sym (length-map ns (name_at names)) ∙ ap length are.named

-- a transaction's writes have the numbers of its declared writes and the cells that it leaves
pub txn_written : (names : List (List ℕ)) (u : ℕ) (look : Look) (t : Txn) (ns : List ℕ) (cs : List Cell) → AreNumbersOf names ns t.writes
    → map (after look t) t.writes ≡ cs → AreTxnWrites names u look t (writes_by u ns cs)
txn_written names u look t ns cs are leaves = record {
  below = writes_below (length names) u ns cs are.below;
  listed =
      subst (λ (ds : List Cell). map (named_write names) (writes_by u ns ds) ≡ txn_writes u (after look t) t.writes) leaves
      (subst (λ (ks : List (List ℕ)). map (named_write names) (writes_by u ns (map (after look t) ks)) ≡ txn_writes u (after look t) ks) are.named
      (writes_named names u (after look t) ns));
}

-- a transaction's writes are those of the list with only that transaction
pub one_listed : (names : List (List ℕ)) (u : ℕ) (look : Look) (t : Txn) (ws : List NumberedWrite) → AreTxnWrites names u look t ws
    → map (named_write names) ws ≡ all_txn_writes u look (t ∷ [])
one_listed names u look t ws h = h.listed ∙ sym (append-nil (txn_writes u (after look t) t.writes))

pub one_formed : (t : Txn) → IsRunnable t → All IsRunnable (t ∷ [])
one_formed t h = All-cons IsRunnable t [] h (All-nil IsRunnable)
