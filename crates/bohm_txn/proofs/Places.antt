-- The indices of keys in ascending order.
use Rattle.std.proofs.Common.{◌≡◌, ℕ, zero, suc, ◌+◌, Bool, true, false, cond, List, [], ◌∷◌, Option, Some, None, refl, ap, sym, ◌∙◌, subst, add-one}
use Rattle.std.specs.Option.{option_map}
use Rattle.std.specs.List.{list_any, position_from}
use Rattle.std.specs.Str.{bytes_eq}
use Rattle.std.proofs.lemmas.Bool.{or_parts, false_from_ne_true}
use Rattle.bohm_types.specs.declared.cell.Cell.{Cell}
use Rattle.bohm_types.specs.Keys.{place, IsPlaceOf, rising}
use Rattle.bohm_txn.specs.Tables.{cell_from, cell_at}
use Rattle.bohm_txn.proofs.Apart.{AllApart, rising_apart}
use Rattle.bohm_txn.proofs.Bodies.{among_at}
use Rattle.bohm_log.proofs.ForCallers.{same_key, key_itself}

later : (t : List ℕ → Bool) (i : ℕ) (xs : List (List ℕ)) → position_from t (i + 1) xs ≡ option_map suc (position_from t i xs)
later t i [] = refl
later t i (x ∷ xs) =
    elim (t x) as (λ b. cond b (Some (i + 1)) (position_from t (i + 1 + 1) xs) ≡ option_map suc (cond b (Some i) (position_from t (i + 1) xs))) [
      | true ↦ ap (λ n. Some n) (add-one i)
      | false ↦ later t (i + 1) xs
    ]

pub place-cons : (x : List ℕ) (xs : List (List ℕ)) (k : List ℕ) → place (x ∷ xs) k ≡ cond (bytes_eq x k) (Some 0) (option_map suc (place xs k))
place-cons x xs k = ap (λ o. cond (bytes_eq x k) (Some 0) o) (later (λ y. bytes_eq y k) 0 xs)

-- in a list without duplicates, `place` finds a key's index, or `None` if the key isn't in the list
pub only_place : (keys : List (List ℕ)) (k : List ℕ) (o : Option ℕ) → AllApart keys → IsPlaceOf keys k o → place keys k ≡ o
only_place [] k None apart h = refl
only_place [] k (Some i) apart h = absurd cc
only_place (x ∷ xs) k None apart h =
    let (other, absent) = or_parts (bytes_eq x k) (list_any (λ y. bytes_eq y k) xs) h in
    place-cons x xs k ∙ rw (other, only_place xs k None apart.1 absent) refl
only_place (x ∷ xs) k (Some zero) apart h =
    let same : x ≡ k = cc in
    place-cons x xs k ∙ rw (same, key_itself k) refl
only_place (x ∷ xs) k (Some (suc i)) apart h =
    let other : bytes_eq x k ≡ false = false_from_ne_true (bytes_eq x k)
    (λ e. apart.0 (subst (λ y. list_any (λ z. bytes_eq z y) xs ≡ true) (sym (same_key x k e)) (among_at xs i k h))) in
    place-cons x xs k ∙ rw (other, only_place xs k (Some i) apart.1 h) refl

pub cell_at_place : (keys : List (List ℕ)) (cells : List Cell) (k : List ℕ) (o : Option ℕ) → rising keys ≡ true → IsPlaceOf keys k o
    → cell_at keys cells k ≡ cell_from cells o
cell_at_place keys cells k o up h = ap (cell_from cells) (only_place keys k o (rising_apart keys up) h)
