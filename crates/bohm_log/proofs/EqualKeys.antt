-- Equal keys.
use Rattle.std.proofs.Common.{◌≡◌, ℕ, true, false, List, refl, sym}
use Rattle.std.specs.Str.{bytes_eq}
use Rattle.std.proofs.lemmas.Slice.Eq.{bytes_eq-Decides}

pub same_key : (x k : List ℕ) → bytes_eq x k ≡ true → x ≡ k
same_key x k e = (bytes_eq-Decides x k).0 e

pub key_itself : (k : List ℕ) → bytes_eq k k ≡ true
key_itself k = (bytes_eq-Decides k k).1 refl

pub other_key : (x k : List ℕ) → bytes_eq x k ≡ false → bytes_eq k x ≡ false
other_key x k e =
    elim (bytes_eq k x) as (λ t. bytes_eq k x ≡ t → t ≡ false) [
      | true ↦ λ h. let same : k ≡ x = same_key k x h in let again : bytes_eq x k ≡ true = (bytes_eq-Decides x k).1 (sym same) in absurd cc
      | false ↦ λ h. refl
    ] refl
