-- The positions of a share, and the positions that its sweep defers.
use Rattle.std.proofs.Common.{◌≡◌, ℕ, ◌+◌, ◌-◌, ◌%◌, ◌<◌, ◌≤◌, ◌∷◌, [], List, Bool, true}
use Rattle.std.proofs.Common.{false, cond, eqb, All, refl, sym, ap, ◌∙◌, subst, ⊎_elim, arith}
use Rattle.std.specs.Prelude.{Contains}
use Rattle.std.specs.List.{filter, range_with_len}
use Rattle.std.proofs.lemmas.Bool.{eq-eqb}
use Rattle.std.proofs.lemmas.List.Elements.{All-filter}
use Rattle.std.proofs.lemmas.List.FromFn.{length-range_with_len, get_or-range_with_len}
use Rattle.bohm_exec.specs.Asides.{IsPickedFrom}
use Rattle.bohm_exec.specs.Shares.{share}
use Rattle.bohm_txn.proofs.ForCallers.{contains_head, contains_tail, contains_cases}

-- ---- lists

added : (b : Bool) (x t : ℕ) (xs : List ℕ) → Contains xs t → Contains (cond b (x ∷ xs) xs) t
added true x t xs c = contains_tail x t xs c
added false x t xs c = c

kept : (p : ℕ → Bool) (xs : List ℕ) (t : ℕ) → p t ≡ true → Contains xs t → Contains (filter p xs) t
kept p [] t passes (k, low, is) = absurd (omega (arith, low))
kept p (x ∷ xs) t passes c = ⊎_elim
    (λ e. subst (λ (b : Bool). Contains (cond b (x ∷ filter p xs) (filter p xs)) t) (sym (ap p e ∙ passes))
    (subst (λ (z : ℕ). Contains (x ∷ filter p xs) z) e (contains_head x (filter p xs))))
    (λ there. added (p x) x t (filter p xs) (kept p xs t passes there))
    (contains_cases x t xs c)

in_range : (a n t : ℕ) → a ≤ t → t < a + n → Contains (range_with_len a n) t
in_range a n t low high =
    let at = get_or-range_with_len a n (t - a) t (omega (arith, low, high)) in
    (t - a, omega (arith, low, high, length-range_with_len a n), omega (arith, at, low))

-- ---- shares

pub share_covers : (first len workers t : ℕ) → first ≤ t → t < first + len → Contains (share first len ((t - first) % workers) workers) t
share_covers first len workers t low high = kept (λ (z : ℕ). eqb ((z - first) % workers) ((t - first) % workers)) (range_with_len first len) t
    (eq-eqb _ _ refl) (in_range first len t low high)

range_inside : (a n : ℕ) → All (λ t. (a ≤ t) × (t < a + n)) (range_with_len a n)
range_inside a n = λ k d lt.
    let at = get_or-range_with_len a n k d (omega (arith, lt, length-range_with_len a n)) in
    (omega (arith, at), omega (arith, at, lt, length-range_with_len a n))

pub share_inside : (first len worker workers : ℕ) → All (λ t. (first ≤ t) × (t < first + len)) (share first len worker workers)
share_inside first len worker workers = All-filter (λ (t : ℕ). eqb ((t - first) % workers) worker) (λ (t : ℕ). (first ≤ t) × (t < first + len))
    (range_with_len first len) (range_inside first len)

-- ---- deferred positions

pub picked_contains : (xs ys : List ℕ) (t : ℕ) → IsPickedFrom xs ys → Contains xs t → Contains ys t
picked_contains [] ys t p (k, low, is) = absurd (omega (arith, low))
picked_contains (x ∷ xs) [] t p c = absurd p
picked_contains (x ∷ xs) (y ∷ ys) t p c = ⊎_elim
    (λ (q : (x ≡ y) × IsPickedFrom xs ys). ⊎_elim
    (λ e. subst (λ (z : ℕ). Contains (y ∷ ys) z) (sym q.0 ∙ e) (contains_head y ys))
    (λ there. contains_tail y t ys (picked_contains xs ys t q.1 there))
    (contains_cases x t xs c))
    (λ (q : IsPickedFrom (x ∷ xs) ys). contains_tail y t ys (picked_contains (x ∷ xs) ys t q c)) p
