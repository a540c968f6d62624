-- A look-up by key finds the same value in a permutation of entries with distinct keys.
use Rattle.std.proofs.Common.{◌≡◌, ℕ, List, Some, None, refl, sym, ◌∙◌}
use Rattle.std.specs.Prelude.{Option}
use Rattle.std.specs.Map.{lookup, keys_of}
use Rattle.std.specs.List.{IsDistinct}
use Rattle.std.specs.List.Sorted.{IsPermutation}
use Rattle.std.specs.Str.{bytes_eq}
use Rattle.std.specs.Cmp.Lexicographic.{nat_list_eq_equiv}
use Rattle.std.proofs.lemmas.List.Sorted.{Contains-permutation, IsPermutation-map, IsPermutation-sym}
use Rattle.std.proofs.lemmas.Map.Keys.{IsDistinct-IsPermutation}
use Rattle.std.proofs.lemmas.Map.Views.{Contains-from_lookup, lookup-from_Contains}
use Rattle.bohm_log.proofs.ForCallers.{same_key}

module _ {X : Type 0} where
  pub distinct_permuted : (xs ys : List (List ℕ × X)) → IsPermutation xs ys → IsDistinct bytes_eq (keys_of xs) → IsDistinct bytes_eq (keys_of ys)
  distinct_permuted xs ys p d = IsDistinct-IsPermutation bytes_eq nat_list_eq_equiv.symm (keys_of xs) (keys_of ys)
      (IsPermutation-map (λ (e : List ℕ × X). e.0) xs ys p) d

  moved : (xs ys : List (List ℕ × X)) → IsPermutation xs ys → IsDistinct bytes_eq (keys_of ys) → (q : List ℕ) (v : X) → lookup (bytes_eq q) xs ≡ Some v
      → lookup (bytes_eq q) ys ≡ Some v
  moved xs ys p d q v h = lookup-from_Contains nat_list_eq_equiv q v ys d (Contains-permutation xs ys (q, v) p (Contains-from_lookup same_key q v xs h))

  permuted_by : (xs ys : List (List ℕ × X)) → IsPermutation xs ys → IsDistinct bytes_eq (keys_of xs) → (q : List ℕ) (o n : Option X)
      → lookup (bytes_eq q) xs ≡ o → lookup (bytes_eq q) ys ≡ n → n ≡ o
  permuted_by xs ys p d q (Some v) n at at' = sym at' ∙ moved xs ys p (distinct_permuted xs ys p d) q v at
  permuted_by xs ys p d q None None at at' = refl
  permuted_by xs ys p d q None (Some w) at at' = let back = moved ys xs (IsPermutation-sym xs ys p) d q w at' in absurd cc

  pub lookup_permuted : (xs ys : List (List ℕ × X)) → IsPermutation xs ys → IsDistinct bytes_eq (keys_of xs) → (q : List ℕ)
      → lookup (bytes_eq q) ys ≡ lookup (bytes_eq q) xs
  lookup_permuted xs ys p d q = permuted_by xs ys p d q (lookup (bytes_eq q) xs) (lookup (bytes_eq q) ys) refl refl
