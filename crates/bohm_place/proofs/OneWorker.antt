-- A single worker has all parts, and finds the placeholders of all keys.
use Rattle.std.proofs.Common.{◌≡◌, ℕ, ◌%◌, true, List, [], refl, arith}
use Rattle.std.proofs.lemmas.Nat.{mod_below}
use Rattle.bohm_types.specs.Txn.{Txn}
use Rattle.bohm_place.specs.declared.placeholder.Placeholder.{Placeholder}
use Rattle.bohm_place.specs.Shares.{keys_of, found_by}
use Rattle.bohm_place.proofs.Found.{found_same}

module _ (part : List ℕ → ℕ) where
  first_part : (k : List ℕ) → part k % 1 ≡ 0
  first_part k = omega (arith, mod_below (part k) 1 (omega arith))

  pub alone_found : (f : List Txn → List ℕ → Placeholder) (txns : List Txn) → found_by (keys_of part 1 0) f [] txns ≡ found_by (λ _. true) f [] txns
  alone_found f txns = found_same (keys_of part 1 0) (λ _. true) f f (λ done k. rw (first_part k) refl) [] txns
