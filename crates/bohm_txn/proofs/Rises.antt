-- The answer of `is_sorted_by` on keys is whether they ascend.
use Rattle.std.proofs.Common.{◌≡◌, ℕ, zero, suc, ◌<◌, List, [], ◌∷◌, length, map, get_or, Bool, true, false, refl, arith, add-one, subst}
use Rattle.std.specs.Prelude.{◌&&◌}
use Rattle.std.specs.Ordering.{nat_cmp, is_lt}
use Rattle.std.specs.Cmp.Lexicographic.{slice_cmp}
use Rattle.std.specs.List.{IsAllAdjacentAnswer}
use Rattle.bohm_types.specs.Keys.{rising, rises_from}

abbrev pub below : List ℕ → List ℕ → Bool
below a b = is_lt (slice_cmp nat_cmp a b)

rise : {X : Type 0} (f : X → List ℕ) (x : X) (xs : List X) → ((k : ℕ) (d : X) → suc k < length (x ∷ xs)
    → true ≡ below (f (get_or (x ∷ xs) k d)) (f (get_or (x ∷ xs) (suc k) d))) → true ≡ rises_from (f x) (map f xs)
rise f x [] h = refl
rise f x (y ∷ ys) h = rw (← h 0 x (omega arith)) (rise f y ys (λ k d l. h (suc k) d (omega arith)))

fall : {X : Type 0} (f : X → List ℕ) (x : X) (xs : List X) (k : ℕ) → suc k < length (x ∷ xs)
    → ((d : X) → false ≡ below (f (get_or (x ∷ xs) k d)) (f (get_or (x ∷ xs) (suc k) d))) → false ≡ rises_from (f x) (map f xs)
fall f x [] k l h = absurd (omega arith)
fall f x (y ∷ ys) zero l h = rw (← h x) refl
fall f x (y ∷ ys) (suc k) l h = rw (← fall f y ys k (omega arith) h) (both (below (f x) (f y)))
  where
    both : (b : Bool) → false ≡ (b && false)
    both true = refl
    both false = refl

pub rising_answer : {X : Type 0} (f : X → List ℕ) (xs : List X) (r : Bool) → IsAllAdjacentAnswer (λ x y b. b ≡ below (f x) (f y)) xs r → r ≡ rising (map f xs)
rising_answer f [] true h = refl
rising_answer f [] false h = absurd (omega (arith, h.1))
rising_answer f (x ∷ xs) true h =
    rise f x xs (λ k d l. subst (λ n. true ≡ below (f (get_or (x ∷ xs) k d)) (f (get_or (x ∷ xs) n d))) (add-one k) (h k d (omega arith)))
rising_answer f (x ∷ xs) false h = fall f x xs h.0 (omega (arith, h.1))
    (λ d. subst (λ n. false ≡ below (f (get_or (x ∷ xs) h.0 d)) (f (get_or (x ∷ xs) n d))) (add-one h.0) (h.2 d))
