-- The counts of a key after one more key of a set, and after one more transaction.
use Rattle.std.proofs.Common.{◌≡◌, ℕ, ◌+◌, ◌<◌, ◌≤◌, Bool, true, false, cond, ◌||◌, List, length, take}
use Rattle.std.proofs.Common.{Some, slice_get, refl, sym, ap, subst, ◌∙◌, arith, if◌then◌else◌, not}
use Rattle.std.specs.List.{count_by, list_any}
use Rattle.std.specs.Str.{bytes_eq}
use Rattle.std.proofs.lemmas.Bool.{false≢true}
use Rattle.std.proofs.lemmas.List.{length-take-le}
use Rattle.std.proofs.lemmas.List.Sums.{count_by-le-length}
use Rattle.std.proofs.lemmas.Option.{get_or_from_slice_get, slice_get_within}
use Rattle.std.proofs.Math.Bool.{or_assoc}
use Rattle.bohm_types.specs.Txn.{Txn}
use Rattle.bohm_types.specs.Keys.{is_among, rising}
use Rattle.bohm_txn.specs.declared.fault.CheckKind.TheVariants.{Order}
use Rattle.bohm_txn.specs.Faulty.{IsWellFormedTxn}
use Rattle.bohm_txn.proofs.ForCallers.{none_before, rising_apart, rising_writes, same_key, any_more}
use Rattle.bohm_place.specs.declared.declared_set.DeclaredSet.{DeclaredSet}
use Rattle.bohm_place.specs.declared.declared_set.DeclaredSet.TheVariants.{Reads, Writes}
use Rattle.bohm_place.specs.Plans.{keys_in}
use Rattle.bohm_place.specs.Shares.{AreWellFormed}
use Rattle.bohm_explain.specs.declared.tallies.Tally.{Tally}
use Rattle.bohm_explain.specs.Heats.{declares, readers_of, writers_of}
use Rattle.bohm_explain.specs.Tallies.{HasRoom, counted_in, plus}
use Rattle.bohm_explain.proofs.Further.{sum_more}

-- ---- the keys of one set, which ascend

pub not_yet : (keys : List (List ℕ)) (i : ℕ) (key : List ℕ) → rising keys ≡ true → slice_get keys i ≡ Some key → is_among (take i keys) key ≡ false
not_yet keys i key rises at = subst (λ (k : List ℕ). is_among (take i keys) k ≡ false) (get_or_from_slice_get keys i key key at)
    (none_before keys i key (slice_get_within keys i key at) (rising_apart keys rises))

among_more : (keys : List (List ℕ)) (i : ℕ) (key k : List ℕ) → slice_get keys i ≡ Some key
    → is_among (take (i + 1) keys) k ≡ (is_among (take i keys) k || bytes_eq key k)
among_more keys i key k at = any_more (λ x. bytes_eq x k) keys i key at

module _ (set : DeclaredSet) (old mid new : Tally) where
  by_step : (a e : Bool) → (e ≡ true → a ≡ false) → mid ≡ (if a then plus set old else old) → new ≡ (if e then plus set mid else mid)
      → new ≡ (if (a || e) then plus set old else old)
  by_step true true once m n = absurd (false≢true (sym (once refl)))
  by_step true false once m n = n ∙ m
  by_step false true once m n = n ∙ ap (plus set) m
  by_step false false once m n = n ∙ m

  pub counted_key : (keys : List (List ℕ)) (i : ℕ) (key k : List ℕ) → rising keys ≡ true → slice_get keys i ≡ Some key
      → mid ≡ (if is_among (take i keys) k then plus set old else old) → new ≡ (if bytes_eq key k then plus set mid else mid)
      → new ≡ (if is_among (take (i + 1) keys) k then plus set old else old)
  counted_key keys i key k rises at m n =
      let once : bytes_eq key k ≡ true → is_among (take i keys) k ≡ false =
      λ e. subst (λ (x : List ℕ). is_among (take i keys) x ≡ false) (same_key key k e) (not_yet keys i key rises at) in
      rw (among_more keys i key k at) (by_step (is_among (take i keys) k) (bytes_eq key k) once m n)

-- ---- the sets of a well-formed transaction ascend

true_from : (a b : Bool) → ¬ ((not a || b) ≡ true) → a ≡ true
true_from true b h = refl
true_from false b h = absurd (h refl)

pub rising_in : (set : DeclaredSet) (t : Txn) → IsWellFormedTxn t → rising (keys_in set t) ≡ true
rising_in Reads t well = true_from (rising t.reads) (not (rising t.writes)) (well 1 0 Order)
rising_in Writes t well = rising_writes t well

pub rising_item : (set : DeclaredSet) (txns : List Txn) (i : ℕ) (t : Txn) → AreWellFormed txns → slice_get txns i ≡ Some t → rising (keys_in set t) ≡ true
rising_item set txns i t formed at = rising_in set t (subst IsWellFormedTxn (get_or_from_slice_get txns i t t at) (formed i t (slice_get_within txns i t at)))

-- ---- the counts have room for one more transaction

few : (p : Txn → Bool) (txns : List Txn) (i : ℕ) → i < length txns → count_by p (take i txns) ≤ i
few p txns i inside = let all = count_by-le-length p (take i txns) in let len = length-take-le i txns (omega arith) in omega (arith, all, len)

pub room_inside : (set : DeclaredSet) (txns : List Txn) (i : ℕ) (k : List ℕ) (old mid : Tally) → i < length txns → HasRoom set (length txns) old
    → mid ≡ counted_in old (take i txns) k → HasRoom set 1 mid
room_inside Reads txns i k old mid inside room is =
    let up = few (λ t. is_among t.reads k) txns i inside in
    let same : mid.readers ≡ old.readers + readers_of k (take i txns) = ap (λ (t : Tally). t.readers) is in
    omega (arith, up, same, room)
room_inside Writes txns i k old mid inside room is =
    let up = few (λ t. is_among t.writes k) txns i inside in
    let same : mid.writers ≡ old.writers + writers_of k (take i txns) = ap (λ (t : Tally). t.writers) is in
    omega (arith, up, same, room)

-- counting a read leaves the number of writers unchanged
writers_left : (b : Bool) (old new : Tally) → new ≡ (if b then plus Reads old else old) → new.writers ≡ old.writers
writers_left true old new is = ap (λ (t : Tally). t.writers) is
writers_left false old new is = ap (λ (t : Tally). t.writers) is

pub room_behind : (b : Bool) (old new : Tally) → new ≡ (if b then plus Reads old else old) → HasRoom Writes 1 old → HasRoom Writes 1 new
room_behind b old new is room = let same = writers_left b old new is in omega (arith, same, room)

-- ---- which keys are listed

pub listed_key : (keys : List (List ℕ)) (i : ℕ) (key k : List ℕ) (old mid new : Bool) → slice_get keys i ≡ Some key → mid ≡ (old || is_among (take i keys) k)
    → new ≡ (mid || bytes_eq key k) → new ≡ (old || is_among (take (i + 1) keys) k)
listed_key keys i key k old mid new at m n =
    n ∙ (ap (λ (b : Bool). b || bytes_eq key k) m
    ∙ (or_assoc old (is_among (take i keys) k) (bytes_eq key k) ∙ ap (λ (b : Bool). old || b) (sym (among_more keys i key k at))))

-- ---- the counts after one more transaction

abbrev with_counts : ℕ → ℕ → ℕ → Tally
with_counts w r c = record { writers = w; readers = r; chain = c }

same_tally : (w x r s c : ℕ) → w ≡ x → r ≡ s → with_counts w r c ≡ with_counts x s c
same_tally w x r s c e f = rw (e, f) refl

by_sets : (r w : Bool) (old mid new : Tally) → mid ≡ (if r then plus Reads old else old) → new ≡ (if w then plus Writes mid else mid)
    → new ≡ with_counts (old.writers + cond w 1 0) (old.readers + cond r 1 0) old.chain
by_sets true true old mid new m n = n ∙ ap (plus Writes) m
by_sets true false old mid new m n = n ∙ (m ∙ same_tally old.writers (old.writers + 0) (old.readers + 1) (old.readers + 1) old.chain (omega arith) refl)
by_sets false true old mid new m n = n ∙ (ap (plus Writes) m
    ∙ same_tally (old.writers + 1) (old.writers + 1) old.readers (old.readers + 0) old.chain refl (omega arith))
by_sets false false old mid new m n = n ∙ (m ∙ same_tally old.writers (old.writers + 0) old.readers (old.readers + 0) old.chain (omega arith) (omega arith))

module _ (txns : List Txn) (i : ℕ) (t : Txn) (at : slice_get txns i ≡ Some t) (k : List ℕ) where
  pub counted_txn : (old so_far mid new : Tally) → so_far ≡ counted_in old (take i txns) k → mid ≡ (if is_among t.reads k then plus Reads so_far else so_far)
      → new ≡ (if is_among t.writes k then plus Writes mid else mid)
      → new ≡ counted_in old (take (i + 1) txns) k
  counted_txn old so_far mid new is m n =
      let w = cond (is_among t.writes k) 1 0 in
      let r = cond (is_among t.reads k) 1 0 in
      let before = counted_in old (take i txns) k in
      let after = counted_in old (take (i + 1) txns) k in
      let writers : before.writers + w ≡ after.writers = let more = sum_more txns i t at (λ x. cond (is_among x.writes k) 1 0) in omega (arith, more) in
      let readers : before.readers + r ≡ after.readers = let more = sum_more txns i t at (λ x. cond (is_among x.reads k) 1 0) in omega (arith, more) in
      by_sets (is_among t.reads k) (is_among t.writes k) so_far mid new m n ∙ (ap (λ (s : Tally). with_counts (s.writers + w) (s.readers + r) s.chain) is
      ∙ same_tally (before.writers + w) after.writers (before.readers + r) after.readers old.chain writers readers)

  pub listed_txn : (old so_far mid new : Bool) → so_far ≡ (old || list_any (declares k) (take i txns)) → mid ≡ (so_far || is_among t.reads k)
      → new ≡ (mid || is_among t.writes k)
      → new ≡ (old || list_any (declares k) (take (i + 1) txns))
  listed_txn old so_far mid new is m n =
      let some = list_any (declares k) (take i txns) in
      let here = declares k t in
      let so : new ≡ (so_far || here) = n ∙ (ap (λ (b : Bool). b || is_among t.writes k) m ∙ or_assoc so_far (is_among t.reads k) (is_among t.writes k)) in
      so ∙ (ap (λ (b : Bool). b || here) is ∙ (or_assoc old some here ∙ ap (λ (b : Bool). old || b) (sym (any_more (declares k) txns i t at))))
