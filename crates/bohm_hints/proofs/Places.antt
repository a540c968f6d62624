-- The index of a name that is in a list of distinct names.
use Rattle.std.proofs.Common.{◌≡◌, ℕ, zero, suc, ◌+◌, true, false, List, [], ◌∷◌, Some, ap, sym, ◌∙◌, arith, slice_get}
use Rattle.std.specs.List.{AllByRecursion, IsDistinct, position, position_from}
use Rattle.std.specs.Str.{bytes_eq}
use Rattle.std.specs.Cmp.Lexicographic.{nat_list_eq_equiv}
use Rattle.std.proofs.lemmas.Iterator.Adapters.{position_from-zero}
use Rattle.std.proofs.lemmas.Option.{same_Some}
use Rattle.std.proofs.lemmas.Slice.Eq.{bytes_eq-Decides}

apart_there : (x : List ℕ) (names : List (List ℕ)) (i : ℕ) (k : List ℕ) → AllByRecursion (λ y. bytes_eq x y ≡ false) names → slice_get names i ≡ Some k
    → bytes_eq k x ≡ false
apart_there x [] i k h e = absurd cc
apart_there x (y ∷ names) zero k h e = nat_list_eq_equiv.symm k x ∙ (ap (bytes_eq x) (sym (same_Some y k e)) ∙ h.0)
apart_there x (y ∷ names) (suc i) k h e = apart_there x names i k h.1 e

there_from : (n : ℕ) (names : List (List ℕ)) (i : ℕ) (k : List ℕ) → IsDistinct bytes_eq names → slice_get names i ≡ Some k
    → position_from (bytes_eq k) n names ≡ Some (n + i)
unfolding IsDistinct
there_from n [] i k d e = absurd cc
there_from n (x ∷ names) zero k d e =
    let same : bytes_eq k x ≡ true = (bytes_eq-Decides k x).1 (sym (same_Some x k e)) in
    let sum : n ≡ n + 0 = omega arith in
    rw same (ap Some sum)
there_from n (x ∷ names) (suc i) k d e =
    let other = apart_there x names i k d.0 e in
    let sum : (n + 1) + i ≡ n + suc i = omega arith in
    rw other (there_from (n + 1) names i k d.1 e ∙ ap Some sum)

-- the index of a name that is read at an index is this index
pub placed : (names : List (List ℕ)) (i : ℕ) (k : List ℕ) → IsDistinct bytes_eq names → slice_get names i ≡ Some k → position (bytes_eq k) names ≡ Some i
placed names i k d e =
    let sum : 0 + i ≡ i = omega arith in
    position_from-zero (bytes_eq k) names ∙ (there_from 0 names i k d e ∙ ap Some sum)
