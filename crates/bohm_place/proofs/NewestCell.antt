-- A key's cell before a transaction is its cell after the key's newest earlier writer.
use Rattle.std.proofs.Common.{◌≡◌, ℕ, zero, suc, ◌+◌, ◌-◌, ◌<◌, ◌≤◌, List, length, slice_get, Some, refl, ap, ◌∙◌, subst, arith, add-suc, add-zero}
use Rattle.std.proofs.lemmas.Option.{get_or_from_slice_get, slice_get_within}
use Rattle.bohm_types.specs.Txn.{Txn}
use Rattle.bohm_types.specs.Keys.{IsAmong}
use Rattle.bohm_txn.specs.Faulty.{IsWellFormedTxn}
use Rattle.bohm_txn.specs.Declares.{IsUsable}
use Rattle.bohm_txn.specs.Meaning.{Look}
use Rattle.bohm_txn.specs.Serial.{state}
use Rattle.bohm_txn.proofs.ForCallers.{usable, kept, there, next}
use Rattle.bohm_place.specs.declared.access.Source.{Source}
use Rattle.bohm_place.specs.declared.access.Source.TheVariants.{Before, Within}
use Rattle.bohm_place.specs.Shares.{AreWellFormed}
use Rattle.bohm_place.specs.Writers.{IsNewest, upto, newest_of}

pub formed_at : (ts : List Txn) → AreWellFormed ts → (i : ℕ) (t : Txn) → slice_get ts i ≡ Some t → IsWellFormedTxn t
formed_at ts formed i t e = subst IsWellFormedTxn (get_or_from_slice_get ts i t t e) (formed i t (slice_get_within ts i t e))

pub usable_at : (ts : List Txn) → AreWellFormed ts → (i : ℕ) (t : Txn) → slice_get ts i ≡ Some t → IsUsable t
usable_at ts formed i t e = usable t (formed_at ts formed i t e)

-- a transaction that doesn't write the key leaves the key's cell unchanged
one : (look : Look) (ts : List Txn) (v : ℕ) (k : List ℕ) → AreWellFormed ts → v < length ts → ((t : Txn) → slice_get ts v ≡ Some t → IsAmong t.writes k → ⊥)
    → state look ts (suc v) k ≡ state look ts v k
one look ts v k formed inside absent =
    let (t, e) = there ts v inside in
    ap (λ (f : Look). f k) (next look ts v t e) ∙ kept (state look ts v) t k (usable_at ts formed v t e) (absent t e)

steady : (look : Look) (ts : List Txn) (k : List ℕ) (p d : ℕ) → AreWellFormed ts
    → ((v : ℕ) (t : Txn) → p ≤ v → v < p + d → slice_get ts v ≡ Some t → IsAmong t.writes k → ⊥) → p + d ≤ length ts
    → state look ts (p + d) k ≡ state look ts p k
steady look ts k p zero formed absent inside = rw add-zero refl
steady look ts k p (suc d) formed absent inside =
    rw add-suc (one look ts (p + d) k formed (omega arith) (λ t. absent (p + d) t (omega arith) (omega arith))
    ∙ steady look ts k p d formed (λ v t low high. absent v t low (omega arith)) (omega arith))

between : (look : Look) (ts : List Txn) (k : List ℕ) (p i : ℕ) → AreWellFormed ts → p ≤ i → i ≤ length ts
    → ((v : ℕ) (t : Txn) → p ≤ v → v < i → slice_get ts v ≡ Some t → IsAmong t.writes k → ⊥) → state look ts i k ≡ state look ts p k
between look ts k p i formed low inside absent =
    let same : p + (i - p) ≡ i = omega arith in
    subst (λ (m : ℕ). state look ts m k ≡ state look ts p k) same
    (steady look ts k p (i - p) formed (λ v t from to. absent v t from (omega (arith, same))) (omega (arith, same)))

pub newest_state_by : (look : Look) (ts : List Txn) (first i : ℕ) (k : List ℕ) (s : Source) → AreWellFormed ts → i ≤ length ts
    → IsNewest first ts k (first + i) s → state look ts i k ≡ state look ts (upto first s) k
newest_state_by look ts first i k Before formed inside newest =
    between look ts k 0 i formed (omega arith) inside
    (λ v t low high e has. newest (first + v) (omega arith)
    (record { txn = t; there = record { place = v; timestamp = refl; is_at = e }; declared = has }))
newest_state_by look ts first i k (Within u) formed inside newest =
    let at = newest.holds.there.timestamp in
    let place = newest.holds.there.place in
    let number : (u + 1) - first ≡ place + 1 = omega arith in
    let below : place + 1 ≤ i = omega (arith, newest.below) in
    rw number (between look ts k (place + 1) i formed below inside
    (λ v t low high e has. newest.none_between (first + v) (omega arith) (omega arith)
    (record { txn = t; there = record { place = v; timestamp = refl; is_at = e }; declared = has })))

number_of : (s : Source) → upto 1 s ≡ newest_of s
number_of Before = refl
number_of (Within u) = omega arith

pub newest_in_log : (look : Look) (log : List Txn) (t : ℕ) (k : List ℕ) (s : Source) → AreWellFormed log → 1 ≤ t → t ≤ length log + 1 → IsNewest 1 log k t s
    → state look log (t - 1) k ≡ state look log (newest_of s) k
newest_in_log look log t k s formed low high newest =
    let at : t ≡ 1 + (t - 1) = omega arith in
    let here = newest_state_by look log 1 (t - 1) k s formed (omega arith) (subst (λ (m : ℕ). IsNewest 1 log k m s) at newest) in
    rw (← number_of s) here
