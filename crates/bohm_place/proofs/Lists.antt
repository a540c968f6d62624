-- List elements by index.
use Rattle.std.proofs.Common.{◌≡◌, ◌≢◌, ℕ, zero, suc, ◌+◌, ◌<◌, List, [], ◌∷◌, ◌++◌, length, take, drop, sym}
use Rattle.std.proofs.Common.{slice_get, slice_set, set, get_or, Some, refl, ap, ◌∙◌, arith, length-set}
use Rattle.std.proofs.lemmas.Option.{slice_get-get_or, slice_get_within}
use Rattle.std.proofs.lemmas.List.{get_or-set_same, length-take}

pub get_take : {A : Type 0} (c n : ℕ) (xs : List A) → n < c → slice_get (take c xs) n ≡ slice_get xs n
get_take zero n xs h = absurd (omega arith)
get_take (suc c) n [] h = refl
get_take (suc c) zero (x ∷ xs) h = refl
get_take (suc c) (suc n) (x ∷ xs) h = get_take c n xs (omega arith)

pub in_take : {A : Type 0} (xs : List A) (t u : ℕ) (x : A) → slice_get (take t xs) u ≡ Some x → slice_get xs u ≡ Some x
in_take xs t u x e = sym (get_take t u xs (omega (arith, slice_get_within (take t xs) u x e, length-take t xs))) ∙ e

pub get_drop : {A : Type 0} (s n : ℕ) (xs : List A) → slice_get (drop s xs) n ≡ slice_get xs (s + n)
get_drop zero n xs = let e : n ≡ (0 + n) = omega arith in ap (slice_get xs) e
get_drop (suc s) n [] = refl
get_drop (suc s) n (x ∷ xs) = let e : suc (s + n) ≡ (suc s + n) = omega arith in get_drop s n xs ∙ ap (slice_get (x ∷ xs)) e

pub set_same : {Q : Type 0} (qs : List Q) (p : ℕ) (q : Q) → p < length qs → slice_get (slice_set qs p q) p ≡ Some q
set_same qs p q h =
    let l : p < length (set qs p q) = omega (arith, length-set qs p q) in
    slice_get-get_or (set qs p q) p q l ∙ ap (λ x. Some x) (get_or-set_same qs p q q h)

pub set_other : {Q : Type 0} (qs : List Q) (p j : ℕ) (q : Q) → j ≢ p → slice_get (slice_set qs p q) j ≡ slice_get qs j
set_other [] p j q apart = refl
set_other (x ∷ qs) zero zero q apart = absurd (apart refl)
set_other (x ∷ qs) zero (suc j) q apart = refl
set_other (x ∷ qs) (suc p) zero q apart = refl
set_other (x ∷ qs) (suc p) (suc j) q apart = set_other qs p j q (λ e. apart (ap suc e))

pub first_of : {A : Type 0} (xs : List A) → 0 < length xs → A
first_of [] h = absurd (omega arith)
first_of (x ∷ xs) h = x

-- if P holds for each element at its index and for the pushed element, it holds for each of the longer list
pub each_pushed : {A : Type 0} (P : ℕ → A → Type 0) (xs : List A) (x : A) → ((w : ℕ) (d : A) → w < length xs → P w (get_or xs w d)) → P (length xs) x
    → (w : ℕ) (d : A) → w < length xs + 1 → P w (get_or (xs ++ x ∷ []) w d)
each_pushed P [] x h p zero d lt = p
each_pushed P [] x h p (suc w) d lt = absurd (omega arith)
each_pushed P (y ∷ ys) x h p zero d lt = h 0 d (omega arith)
each_pushed P (y ∷ ys) x h p (suc w) d lt = each_pushed (λ v. P (suc v)) ys x (λ v e l. h (suc v) e (omega arith)) p w d (omega arith)
