-- The set of some keys' images has the image of each of these keys.
use Rattle.std.proofs.Common.{◌≡◌, ℕ, true, false, List, [], ◌∷◌, map, ◌∙◌, refl, subst}
use Rattle.std.specs.Prelude.{◌||◌}
use Rattle.std.specs.Str.{bytes_eq}
use Rattle.bohm_types.specs.Keys.{is_among, IsAmong}
use Rattle.bohm_types.specs.KeySets.{key_set}
use Rattle.bohm_log.proofs.ForCallers.{among_key_set}
use Rattle.bohm_txn.proofs.ForCallers.{same_key, key_itself, among_first, among_then}

among_map : (f : List ℕ → List ℕ) (ks : List (List ℕ)) (q : List ℕ) → IsAmong ks q → IsAmong (map f ks) (f q)
among_map f [] q h = absurd cc
among_map f (k ∷ ks) q h =
    elim (bytes_eq k q) as (λ b. bytes_eq k q ≡ b → (b || is_among ks q) ≡ true → IsAmong (f k ∷ map f ks) (f q)) [
      | true ↦ λ e g. among_first (f k) (f q) (map f ks) (subst (λ x. bytes_eq (f k) (f x) ≡ true) (same_key k q e) (key_itself (f k)))
      | false ↦ λ e g. among_then (f k) (f q) (map f ks) (among_map f ks q g)
    ] refl h

pub among_key_set_map : (f : List ℕ → List ℕ) (ks : List (List ℕ)) (q : List ℕ) → IsAmong ks q → IsAmong (key_set (map f ks)) (f q)
among_key_set_map f ks q h = among_key_set (map f ks) (f q) ∙ among_map f ks q h
