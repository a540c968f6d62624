-- The writes of transactions give each key the versions that the transactions produce.
use Rattle.std.proofs.Common.{◌≡◌, ℕ, ◌+◌, ◌<◌, ◌≤◌, Bool, true, false, List, [], ◌∷◌, ◌++◌, length, All, refl, sym, ap, ◌∙◌, arith}
use Rattle.std.proofs.Common.{if◌then◌else◌, append_assoc, subst, take, drop, get_or, add-one, Some}
use Rattle.std.specs.List.{slice_get}
use Rattle.std.specs.Str.{bytes_eq}
use Rattle.std.proofs.lemmas.List.{take_more}
use Rattle.std.proofs.lemmas.Option.{get_or_from_slice_get, slice_get_within}
use Rattle.std.proofs.lemmas.Slice.Eq.{bytes_eq-Decides}
use Rattle.std.proofs.lemmas.List.Elements.{All-head, All-tail}
use Rattle.bohm_types.specs.declared.cell.Cell.{Cell}
use Rattle.bohm_types.specs.Txn.{Txn}
use Rattle.bohm_types.specs.Keys.{is_among}
use Rattle.bohm_store.specs.Writes.{IsRunnable}
use Rattle.bohm_txn.specs.Meaning.{Look}
use Rattle.bohm_txn.specs.Serial.{after, state}
use Rattle.bohm_txn.proofs.ForCallers.{drop_at, next}
use Rattle.bohm_place.specs.Shares.{AreDistinct}
use Rattle.bohm_store.specs.Versions.{KeyedVersion}
use Rattle.bohm_store.specs.Versions.{produced_versions}
use Rattle.bohm_store.specs.Chains.{versions_of_writes, Climb}
use Rattle.bohm_store.specs.Writes.{txn_writes, all_txn_writes}

made-append : (xs ys : List KeyedVersion) (k : List ℕ) → versions_of_writes (xs ++ ys) k ≡ versions_of_writes xs k ++ versions_of_writes ys k
made-append [] ys k = refl
made-append (x ∷ xs) ys k =
    rw (made-append xs ys k) (sym (append_assoc (if bytes_eq x.key k then record { begin = x.begin; cell = x.cell } ∷ [] else [])
    (versions_of_writes xs k) (versions_of_writes ys k)))

made_none : (u : ℕ) (look : Look) (ks : List (List ℕ)) (k : List ℕ) → is_among ks k ≡ false → versions_of_writes (txn_writes u look ks) k ≡ []
made_none u look [] k h = refl
made_none u look (j ∷ ks) k h = made_none_by u look j ks k (bytes_eq j k) refl h (made_none u look ks k)
  where
    made_none_by : (u : ℕ) (look : Look) (j : List ℕ) (ks : List (List ℕ)) (k : List ℕ) (b : Bool) → bytes_eq j k ≡ b
        → is_among (j ∷ ks) k ≡ false → (is_among ks k ≡ false → versions_of_writes (txn_writes u look ks) k ≡ [])
        → versions_of_writes (txn_writes u look (j ∷ ks)) k ≡ []
    made_none_by u look j ks k true e h more = let h' = rw e at h in absurd cc
    made_none_by u look j ks k false e h more = let h' = rw e at h in rw e (more h')

-- a transaction's writes give one version to each key that it declares to write, and none to other keys
made_once : (u : ℕ) (look : Look) (ks : List (List ℕ)) (k : List ℕ) → AreDistinct ks
    → versions_of_writes (txn_writes u look ks) k ≡ (if is_among ks k then record { begin = u; cell = look k } ∷ [] else [])
made_once u look [] k d = refl
made_once u look (j ∷ ks) k d = made_once_by u look j ks k (bytes_eq j k) refl d.0 (made_once u look ks k d.1)
  where
    made_once_by : (u : ℕ) (look : Look) (j : List ℕ) (ks : List (List ℕ)) (k : List ℕ) (b : Bool) → bytes_eq j k ≡ b
        → is_among ks j ≡ false
        → versions_of_writes (txn_writes u look ks) k ≡ (if is_among ks k then record { begin = u; cell = look k } ∷ [] else [])
        → versions_of_writes (txn_writes u look (j ∷ ks)) k ≡ (if is_among (j ∷ ks) k then record { begin = u; cell = look k } ∷ [] else [])
    made_once_by u look j ks k true e none more =
        let same : j ≡ k = (bytes_eq-Decides j k).0 e in
        let others : versions_of_writes (txn_writes u look ks) k ≡ [] = made_none u look ks k (subst (λ (x : List ℕ). is_among ks x ≡ false) same none) in
        rw (e, others) (ap (λ (x : List ℕ). record { begin = u; cell = look x } ∷ []) same)
    made_once_by u look j ks k false e none more = rw e more

pub made_written : (u : ℕ) (look : Look) (txns : List Txn) (k : List ℕ) → All IsRunnable txns
    → versions_of_writes (all_txn_writes u look txns) k ≡ produced_versions u look txns k
made_written u look [] k well = refl
made_written u look (t ∷ txns) k well =
    made-append (txn_writes u (after look t) t.writes) (all_txn_writes (u + 1) (after look t) txns) k
    ∙ rw (
      made_once u (after look t) t.writes k ((All-head IsRunnable t txns well).apart),
      made_written (u + 1) (after look t) txns k
          (All-tail IsRunnable t txns well),
    ) refl

climb_behind : (n u top : ℕ) (look : Look) (ks : List (List ℕ)) (ws : List KeyedVersion) → n ≤ u → u ≤ top
    → ((m : ℕ) → m ≤ u → Climb m ws top) → Climb n (txn_writes u look ks ++ ws) top
climb_behind n u top look [] ws low high more = more n low
climb_behind n u top look (k ∷ ks) ws low high more = (low, climb_behind u u top look ks ws (omega arith) high more)

-- the begins of transactions' writes don't decrease, and none is above the last transaction's timestamp
pub written_climbs : (n u top : ℕ) (look : Look) (txns : List Txn) → n ≤ u → n ≤ top → u + length txns ≤ top + 1 → Climb n (all_txn_writes u look txns) top
written_climbs n u top look [] low under high = under
written_climbs n u top look (t ∷ txns) low under high =
    climb_behind n u top (after look t) t.writes (all_txn_writes (u + 1) (after look t) txns) low (omega arith)
    (λ m le. written_climbs m (u + 1) top (after look t) txns (omega arith) (omega arith) (omega arith))

-- ---- extending the list of writes

pub written_more : (u : ℕ) (look : Look) (ks : List (List ℕ)) (i : ℕ) (d : List ℕ) → i < length ks
    → txn_writes u look (take (i + 1) ks) ≡ txn_writes u look (take i ks) ++ record { begin = u; key = get_or ks i d; cell = look (get_or ks i d) } ∷ []
written_more u look ks i d inside = rw (take_more ks i d inside) (pushed (take i ks) (get_or ks i d))
  where
    pushed : (xs : List (List ℕ)) (k : List ℕ) → txn_writes u look (xs ++ k ∷ []) ≡ txn_writes u look xs ++ record { begin = u; key = k; cell = look k } ∷ []
    pushed [] k = refl
    pushed (x ∷ xs) k = ap (λ (ws : List KeyedVersion). record { begin = u; key = x; cell = look x } ∷ ws) (pushed xs k)

-- appending the next transaction's writes keeps the invariant: the list and the remaining writes are the whole
pub written_step : (base : Look) (txns : List Txn) (first i : ℕ) (x : Txn) (out whole : List KeyedVersion) → slice_get txns i ≡ Some x
    → out ++ all_txn_writes (first + i) (state base txns i) (drop i txns) ≡ whole
    → (out ++ txn_writes (first + i) (state base txns (i + 1)) x.writes) ++ all_txn_writes (first + (i + 1)) (state base txns (i + 1)) (drop (i + 1) txns)
    ≡ whole
written_step base txns first i x out whole here h =
    let after_it : state base txns (i + 1) ≡ after (state base txns i) x = rw add-one (next base txns i x here) in
    let number : first + (i + 1) ≡ first + i + 1 = omega arith in
    let more = rw (drop_at txns i x here) at h in
    rw (after_it, number, append_assoc) more

pub all_at : {A : Type 0} (P : A → Type 0) (xs : List A) (i : ℕ) (x : A) → All P xs → slice_get xs i ≡ Some x → P x
all_at P xs i x h e = subst P (get_or_from_slice_get xs i x x e) (h i x (slice_get_within xs i x e))

-- appending the next key's write lists the writes of one more of the transaction's keys
pub written_push : (u : ℕ) (look : Look) (ks : List (List ℕ)) (i : ℕ) (k : List ℕ) (c : Cell) (out : List KeyedVersion) → slice_get ks i ≡ Some k → look k ≡ c
    → (out ++ txn_writes u look (take i ks)) ++ record { begin = u; key = k; cell = c } ∷ [] ≡ out ++ txn_writes u look (take (i + 1) ks)
written_push u look ks i k c out here is =
    let same : get_or ks i k ≡ k = get_or_from_slice_get ks i k k here in
    let more = written_more u look ks i k (slice_get_within ks i k here) in
    let more' : txn_writes u look (take (i + 1) ks) ≡ txn_writes u look (take i ks) ++ record { begin = u; key = k; cell = look k } ∷ [] =
    subst (λ (j : List ℕ). txn_writes u look (take (i + 1) ks)
    ≡ txn_writes u look (take i ks) ++ record { begin = u; key = j; cell = look j } ∷ []) same more in
    rw (more', is, append_assoc) refl
