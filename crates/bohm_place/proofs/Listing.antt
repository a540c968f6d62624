-- The list of the keys that have more than one begin.
use Rattle.std.proofs.Common.{◌≡◌, ℕ, ◌+◌, ◌<◌, Bool, true, false, ◌||◌, List, [], ◌∷◌, length, take, get_or, set, sym, ap, ◌∙◌, arith, if◌then◌else◌}
use Rattle.std.specs.Str.{bytes_eq}
use Rattle.std.proofs.lemmas.Bool.{false≢true}
use Rattle.std.proofs.lemmas.List.{take_more_set}
use Rattle.std.proofs.lemmas.List.Folds.{list_any_more}
use Rattle.bohm_types.specs.Keys.{is_among, IsAmong}
use Rattle.bohm_txn.proofs.ForCallers.{among_first}
use Rattle.bohm_place.specs.declared.placeholder.Placeholder.{Placeholder}
use Rattle.bohm_place.specs.Chains.{kept_items}
use Rattle.bohm_place.proofs.Keyed.{among_left, among_right}
use Rattle.bohm_place.proofs.Keeping.{kept_twice, kept_short}

pub among_more : (xs : List (List ℕ)) (i : ℕ) (key k : List ℕ) → i < length xs → get_or xs i key ≡ key
    → is_among (take (i + 1) xs) k ≡ (is_among (take i xs) k || bytes_eq key k)
among_more xs i key k inside e = list_any_more (λ x. bytes_eq x k) xs i key inside ∙ ap (λ x. is_among (take i xs) k || bytes_eq x k) e

pub kept_more : (floor : ℕ) (a e : Bool) (base cur new : List Placeholder) → cur ≡ (if a then kept_items floor base else base)
    → new ≡ (if e then kept_items floor cur else cur) → new ≡ (if (a || e) then kept_items floor base else base)
kept_more floor true true base cur new c n = n ∙ ap (kept_items floor) c ∙ kept_twice floor base
kept_more floor true false base cur new c n = n ∙ c
kept_more floor false true base cur new c n = n ∙ ap (kept_items floor) c
kept_more floor false false base cur new c n = n ∙ c

pub kept_all : (floor : ℕ) (a : Bool) (base cur : List Placeholder) → (1 < length base → a ≡ true) → cur ≡ (if a then kept_items floor base else base)
    → cur ≡ kept_items floor base
kept_all floor true base cur listed c = c
kept_all floor false base cur listed c = c ∙ sym (kept_short floor base (few (length base) (λ h. false≢true (listed h))))
  where
    few : (n : ℕ) → (1 < n → ⊥) → n < 2
    few n h = omega arith

-- ---- one step through the list: the first n keys stay listed, and the key is stored at index n

pub listed_on : (xs : List (List ℕ)) (n : ℕ) (key k : List ℕ) → n < length xs → IsAmong (take n xs) k → IsAmong (take (n + 1) (set xs n key)) k
listed_on xs n key k inside h = rw (take_more_set xs n key inside) (among_left (take n xs) (key ∷ []) k h)

pub listed_now : (xs : List (List ℕ)) (n : ℕ) (key k : List ℕ) → n < length xs → bytes_eq key k ≡ true → IsAmong (take (n + 1) (set xs n key)) k
listed_now xs n key k inside e = rw (take_more_set xs n key inside) (among_right (take n xs) (key ∷ []) k (among_first key k [] e))

long_from_kept : (floor : ℕ) (vs : List Placeholder) → 1 < length (kept_items floor vs) → 1 < length vs
long_from_kept floor [] h = h
long_from_kept floor (v ∷ []) h = h
long_from_kept floor (v ∷ w ∷ ws) h = omega arith

pub long_before : (floor : ℕ) (e : Bool) (cur new : List Placeholder) → new ≡ (if e then kept_items floor cur else cur) → 1 < length new → 1 < length cur
long_before floor true cur new n h = long_from_kept floor cur (rw n at h)
long_before floor false cur new n h = rw n at h
