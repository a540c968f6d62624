-- A list whose front was replaced.
use Rattle.std.proofs.Common.{◌≡◌, ℕ, zero, suc, ◌+◌, ◌<◌, ◌≤◌, List, [], ◌∷◌, ◌++◌, length, get_or, take, drop, refl, ap, arith, add-one}
use Rattle.std.proofs.Math.ListN.{set}

one_more : {X : Type 0} (xs ys : List X) (i : ℕ) (d : X) → i < length xs → length xs ≤ length ys
    → set (take i xs ++ drop i ys) i (get_or xs i d) ≡ take (suc i) xs ++ drop (suc i) ys
one_more [] ys i d low long = absurd (omega (arith, low))
one_more (x ∷ xs) [] i d low long = absurd (omega (arith, long))
one_more (x ∷ xs) (y ∷ ys) zero d low long = refl
one_more (x ∷ xs) (y ∷ ys) (suc i) d low long = ap (λ (zs : List _). x ∷ zs) (one_more xs ys i d (omega (arith, low)) (omega (arith, long)))

-- one more element of the front is replaced
pub replaced : {X : Type 0} (xs ys zs : List X) (i : ℕ) (v d : X) → zs ≡ take i xs ++ drop i ys → i < length xs → length xs ≤ length ys
    → v ≡ get_or xs i d → set zs i v ≡ take (i + 1) xs ++ drop (i + 1) ys
replaced xs ys zs i v d front low long here = rw (front, here, add-one) (one_more xs ys i d low long)
