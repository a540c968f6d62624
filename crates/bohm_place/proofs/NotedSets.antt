-- The indices of declared keys in a base, noted set by set.
use Rattle.std.proofs.Common.{◌≡◌, ℕ, ◌+◌, ◌<◌, ◌≤◌, true, List, slice_get, Some, sym, ap, ◌∙◌, subst, inl, inr, ⊎_elim, arith, All, length}
use Rattle.std.proofs.lemmas.Bool.{cases_lt, or_left, or_right}
use Rattle.std.proofs.lemmas.List.Folds.{list_any_at}
use Rattle.std.proofs.lemmas.Option.{same_Some, slice_get_within, get_or_from_slice_get}
use Rattle.bohm_types.specs.Txn.{Txn}
use Rattle.bohm_types.specs.Keys.{IsAmong, is_among}
use Rattle.bohm_txn.specs.Faulty.{IsWellFormedTxn}
use Rattle.bohm_place.specs.declared.access.Access.{Access}
use Rattle.bohm_place.specs.declared.access.Source.TheVariants.{Before, Within}
use Rattle.bohm_place.specs.declared.declared_set.DeclaredSet.{DeclaredSet}
use Rattle.bohm_place.specs.declared.declared_set.DeclaredSet.TheVariants.{Reads, Writes}
use Rattle.bohm_place.specs.Plans.{Planned, keys_in, planned_in, source_in, IsNoted}
use Rattle.bohm_place.specs.Noting.{declares_key, AreKeysOf, HasPlace, IsSetNoted}
use Rattle.bohm_place.proofs.NewestCell.{usable_at}
use Rattle.bohm_place.proofs.Noted.{sources_same, sources_twice, right_noted}

-- ---- one declared set

module _ (p : Planned) (set : DeclaredSet) (i : ℕ) (keys base : List (List ℕ)) where
  pub none_noted : IsSetNoted p p set i keys base 0
  none_noted = record {
    sources = sources_same p;
    right = λ txns right. right;
    each = λ other m n a at. inl at;
    done = λ n a low at before. absurd (omega arith);
  }

  -- no index is noted for an access whose source is in the batch
  pub next_passed : (q : Planned) (n u : ℕ) (b : Access) → IsSetNoted p q set i keys base n → slice_get (planned_in set q i) n ≡ Some b → b.source ≡ Within u
      → IsSetNoted p q set i keys base (n + 1)
  next_passed q n u b noted at within = record { sources = noted.sources; right = noted.right; each = noted.each; done = done }
    where
      done : (m : ℕ) (a : Access) → m < n + 1 → slice_get (planned_in set q i) m ≡ Some a → a.source ≡ Before → HasPlace base keys m a
      done m a low at_a before = ⊎_elim
          (λ earlier. noted.done m a earlier at_a before)
          (λ later.
          let here : m ≡ n = omega arith in
          let same : b ≡ a = same_Some b a (sym at ∙ ap (slice_get (planned_in set q i)) (sym here) ∙ at_a) in
          let sources = sym within ∙ ap (λ (x : Access). x.source) same ∙ before in
          absurd cc)
          (cases_lt m n)

  -- the index of the key is noted for an access whose source is `Before`
  pub next_noted : (q r : Planned) (n place : ℕ) (k : List ℕ) → IsSetNoted p q set i keys base n → IsNoted q r set i n place → source_in set q i n ≡ Some Before
      → slice_get keys n ≡ Some k → slice_get base place ≡ Some k → IsSetNoted p r set i keys base (n + 1)
  next_noted q r n place k noted now before at_key at_place = record {
    sources = sources_twice p q r noted.sources now.sources;
    right = λ txns right. right_noted txns q r set i n place now before (noted.right txns right);
    each = λ other m j a at_a. ⊎_elim
        (λ same. noted.each other m j a same)
        (λ note. inr (note.same, note.row, has j a note.index note.access))
        (now.each other m j a at_a);
    done = done;
  }
    where
      has : (j : ℕ) (a : Access) → j ≡ n → a ≡ record { source = Before; index = place } → HasPlace base keys j a
      has j a here is key at =
          let same : k ≡ key = same_Some k key (sym at_key ∙ ap (slice_get keys) (sym here) ∙ at) in
          ap (slice_get base) (ap (λ (x : Access). x.index) is) ∙ at_place ∙ ap (λ x. Some x) same

      done : (m : ℕ) (a : Access) → m < n + 1 → slice_get (planned_in set r i) m ≡ Some a → a.source ≡ Before → HasPlace base keys m a
      done m a low at_a was_before = ⊎_elim
          (λ earlier. ⊎_elim (λ same. noted.done m a earlier same was_before) (λ note. has m a note.index note.access) (now.each set i m a at_a))
          (λ later.
          let here : m ≡ n = omega arith in
          has m a here (same_Some a (record { source = Before; index = place }) (sym at_a ∙ ap (slice_get (planned_in set r i)) here ∙ now.here)))
          (cases_lt m n)

-- ---- all transactions

-- in the first `count` rows, each access whose source is `Before` has the index of its key in the base
abbrev pub AreNotedBelow : List Txn → Planned → List (List ℕ) → ℕ → Type 0
AreNotedBelow txns p base count = (set : DeclaredSet) (i n : ℕ) (x : Txn) (a : Access) → i < count → slice_get txns i ≡ Some x
    → slice_get (planned_in set p i) n ≡ Some a → a.source ≡ Before → HasPlace base (keys_in set x) n a

other_set : ¬ (Reads ≡ Writes)
other_set e = absurd cc

pub next_row : (txns : List Txn) (p q r : Planned) (base : List (List ℕ)) (i : ℕ) (x : Txn) → slice_get txns i ≡ Some x → AreNotedBelow txns p base i
    → IsSetNoted p q Reads i x.reads base (length x.reads) → IsSetNoted q r Writes i x.writes base (length x.writes) → AreNotedBelow txns r base (i + 1)
next_row txns p q r base i x at noted reads writes set m n y a low at_y at_a before = ⊎_elim
    (λ earlier. old set m n y a earlier at_y at_a before)
    (λ later.
    let here : m ≡ i = omega arith in
    let same : x ≡ y = same_Some x y (sym at ∙ ap (slice_get txns) (sym here) ∙ at_y) in
    let at_i : slice_get (planned_in set r i) n ≡ Some a = ap (λ (j : ℕ). slice_get (planned_in set r j) n) (sym here) ∙ at_a in
    subst (λ (z : Txn). HasPlace base (keys_in set z) n a) same (new set n a at_i before))
    (cases_lt m i)
  where
    old : (set : DeclaredSet) (m n : ℕ) (y : Txn) (a : Access) → m < i → slice_get txns m ≡ Some y → slice_get (planned_in set r m) n ≡ Some a
        → a.source ≡ Before → HasPlace base (keys_in set y) n a
    old set m n y a earlier at_y at_a before = ⊎_elim
        (λ in_q. ⊎_elim
        (λ in_p. noted set m n y a earlier at_y in_p before)
        (λ new. absurd (omega (arith, new.1)))
        (reads.each set m n a in_q))
        (λ new. absurd (omega (arith, new.1)))
        (writes.each set m n a at_a)

    new : (set : DeclaredSet) (n : ℕ) (a : Access) → slice_get (planned_in set r i) n ≡ Some a → a.source ≡ Before → HasPlace base (keys_in set x) n a
    new Reads n a at_a before k at_k = ⊎_elim
        (λ in_q. reads.done n a (slice_get_within x.reads n k at_k) in_q before k at_k)
        (λ wrong. absurd (other_set wrong.0))
        (writes.each Reads i n a at_a)
    new Writes n a at_a before k at_k = writes.done n a (slice_get_within x.writes n k at_k) at_a before k at_k

-- a key in one of a transaction's declared sets is declared by the transaction
declares_in : (set : DeclaredSet) (x : Txn) (k : List ℕ) → IsAmong (keys_in set x) k → declares_key k x ≡ true
declares_in Reads x k h = or_left (is_among x.reads k) (is_among x.writes k) h
declares_in Writes x k h = or_right (is_among x.reads k) (is_among x.writes k) h

pub entered : (txns : List Txn) (keys : List (List ℕ)) (set : DeclaredSet) (i : ℕ) (x : Txn) → AreKeysOf txns keys → slice_get txns i ≡ Some x → (k : List ℕ)
    → IsAmong (keys_in set x) k → IsAmong keys k
entered txns keys set i x are at k h = are.each k
    ∙ list_any_at (declares_key k) txns i x (slice_get_within txns i x at) (rw (get_or_from_slice_get txns i x x at) (declares_in set x k h))

pub few_keys : (txns : List Txn) (set : DeclaredSet) (i : ℕ) (x : Txn) → All IsWellFormedTxn txns → slice_get txns i ≡ Some x → length (keys_in set x) ≤ 16
few_keys txns Reads i x formed at = (usable_at txns formed i x at).few_reads
few_keys txns Writes i x formed at = (usable_at txns formed i x at).few_writes
