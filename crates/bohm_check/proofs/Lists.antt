-- Lists: properties of all elements, membership, and the first 20 elements.
use Rattle.std.proofs.Common.{◌≡◌, Option, None, ℕ, zero, suc, ◌+◌, ◌<◌, ◌≤◌, List, [], ◌∷◌, ◌++◌, length}
use Rattle.std.proofs.Common.{get_or, take, drop, Bool, true, false, Some, refl, ap, sym, ◌∙◌, arith}
use Rattle.std.specs.Prelude.{◌&&◌, IsSomeAnd}
use Rattle.std.specs.List.{All, list_all, slice_get}
use Rattle.std.proofs.lemmas.List.{take-append-le}
use Rattle.bohm_txn.specs.Faulty.{passes_at}
use Rattle.bohm_txn.proofs.ForCallers.{drop_at}

pub single : {X : Type 0} (P : X → Type 0) (x : X) → P x → All P (x ∷ [])
single {X} P x h = go
  where
    go : (k : ℕ) (d : X) → k < 1 → P (get_or (x ∷ []) k d)
    go zero d l = h
    go (suc k) d l = absurd (omega (arith, l))

-- ---- the first 20 elements

pub take_front : {X : Type 0} (n : ℕ) (xs ys : List X) → take n (xs ++ ys) ≡ take n (take n xs ++ ys)
take_front zero xs ys = refl
take_front (suc n) [] ys = refl
take_front (suc n) (x ∷ xs) ys = ap (λ zs. x ∷ zs) (take_front n xs ys)

pub same_front : {X : Type 0} (n : ℕ) (xs ys more : List X) → take n xs ≡ take n ys → take n (xs ++ more) ≡ take n (ys ++ more)
same_front n xs ys more same = take_front n xs more ∙ ap (λ zs. take n (zs ++ more)) same ∙ sym (take_front n ys more)

pub full : {X : Type 0} (n : ℕ) (xs more : List X) → n ≤ length xs → take n xs ≡ take n (xs ++ more)
full n xs more enough = sym (take-append-le n xs more enough)

-- ---- tests of an element by its index

pub passed : {X : Type 0} (p : X → Bool) (xs : List X) (i : ℕ) → passes_at p xs i ≡ true → (x : X) × (slice_get xs i ≡ Some x) × (p x ≡ true)
passed p [] i h = absurd cc
passed p (x ∷ xs) zero h = (x, refl, h)
passed p (x ∷ xs) (suc i) h = passed p xs i h

-- ---- tests of all elements, one after another

module _ {X : Type 0} (p : X → Bool) (xs : List X) (i : ℕ) (so_far : list_all p (drop i xs) ≡ list_all p xs) where
  at_it : (x : X) → slice_get xs i ≡ Some x → list_all p (drop i xs) ≡ (p x && list_all p (drop (i + 1) xs))
  at_it x at = rw (drop_at xs i x at) refl

  pub one_fails : (x : X) → slice_get xs i ≡ Some x → p x ≡ false → false ≡ list_all p xs
  one_fails x at fails = sym (at_it x at ∙ ap (λ b. b && list_all p (drop (i + 1) xs)) fails) ∙ so_far

  pub one_passes : (x : X) → slice_get xs i ≡ Some x → p x ≡ true → list_all p (drop (i + 1) xs) ≡ list_all p xs
  one_passes x at holds = sym (at_it x at ∙ ap (λ b. b && list_all p (drop (i + 1) xs)) holds) ∙ so_far

-- ---- options

pub some_there : {X : Type 0} (P : X → Type 0) (o : Option X) → IsSomeAnd o P → (x : X) × (o ≡ Some x) × P x
some_there P None h = absurd h
some_there P (Some x) h = (x, refl, h)
