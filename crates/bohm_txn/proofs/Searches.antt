-- A search along a list finds the first faulty index, and the least fault there.
use Rattle.std.proofs.Common.{◌≡◌, ℕ, zero, suc, ◌+◌, ◌<◌, List, [], ◌∷◌, Bool, true, false, Option, Some}
use Rattle.std.proofs.Common.{None, ◌⊎◌, inl, inr, refl, sym, ◌∙◌, subst, arith, add-zero, zero-add}
use Rattle.bohm_txn.specs.Faulty.{passes_at}
use Rattle.bohm_txn.specs.FirstFault.{found_or, first_from}

-- an element that was found passes, and no lesser element does; if none was found, no element passes
abbrev pub IsLeast : {B : Type 0} → (B → B → Type 0) → (B → Bool) → Option B → Type 0
IsLeast {B} lt P None = (b : B) → P b ≡ false
IsLeast {B} lt P (Some b) = (P b ≡ true) × ((c : B) → lt c b → P c ≡ false)

-- an earlier index, or the same index with a lesser element
abbrev pub Sooner : {B : Type 0} → (B → B → Type 0) → ℕ × B → ℕ × B → Type 0
Sooner lt p q = (p.0 < q.0) ⊎ ((p.0 ≡ q.0) × lt p.1 q.1)

-- the element at this index passes the test, which takes indices counted from i
abbrev pub within : {A B : Type 0} → (ℕ → A → B → Bool) → ℕ → List A → ℕ → B → Bool
within Q i [] j b = false
within Q i (x ∷ xs) zero b = Q i x b
within Q i (x ∷ xs) (suc j) b = within Q (i + 1) xs j b

pub record IsFirst {A B : Type 0} (lt : B → B → Type 0) (Q : ℕ → A → B → Bool) (i : ℕ) (xs : List A) (p : ℕ × B) : Type 0 where
  pub at : ℕ
  pub place : p.0 ≡ i + at + 1
  pub holds : within Q i xs at p.1 ≡ true
  pub before : (k : ℕ) (c : B) → (k < at) ⊎ ((k ≡ at) × lt c p.1) → within Q i xs k c ≡ false

abbrev pub IsFound : {A B : Type 0} → (B → B → Type 0) → (ℕ → A → B → Bool) → ℕ → List A → Option (ℕ × B) → Type 0
IsFound {A} {B} lt Q i xs None = (j : ℕ) (b : B) → within Q i xs j b ≡ false
IsFound lt Q i xs (Some p) = IsFirst lt Q i xs p

here_before : {A B : Type 0} (lt : B → B → Type 0) (Q : ℕ → A → B → Bool) (i : ℕ) (x : A) (xs : List A) (b : B) → ((c : B) → lt c b → Q i x c ≡ false)
    → (k : ℕ) (c : B) → (k < 0) ⊎ ((k ≡ 0) × lt c b) → within Q i (x ∷ xs) k c ≡ false
here_before lt Q i x xs b less zero c (inl l) = absurd (omega arith)
here_before lt Q i x xs b less zero c (inr e) = less c e.1
here_before lt Q i x xs b less (suc k) c (inl l) = absurd (omega arith)
here_before lt Q i x xs b less (suc k) c (inr e) = absurd (omega (arith, e.0))

there_before : {A B : Type 0} (lt : B → B → Type 0) (Q : ℕ → A → B → Bool) (i : ℕ) (x : A) (xs : List A) (p : ℕ × B) → ((c : B) → Q i x c ≡ false)
    → (h : IsFirst lt Q (i + 1) xs p) → (k : ℕ) (c : B) → (k < suc h.at) ⊎ ((k ≡ suc h.at) × lt c p.1) → within Q i (x ∷ xs) k c ≡ false
there_before lt Q i x xs p none h zero c o = none c
there_before lt Q i x xs p none h (suc k) c (inl l) = h.before k c (inl (omega arith))
there_before lt Q i x xs p none h (suc k) c (inr e) = h.before k c (inr (omega (arith, e.0), e.1))

there : {A B : Type 0} (lt : B → B → Type 0) (Q : ℕ → A → B → Bool) (i : ℕ) (x : A) (xs : List A) → ((c : B) → Q i x c ≡ false) → (o : Option (ℕ × B))
    → IsFound lt Q (i + 1) xs o → IsFound lt Q i (x ∷ xs) o
there {A} {B} lt Q i x xs none None h = none_there
  where
    none_there : (j : ℕ) (b : B) → within Q i (x ∷ xs) j b ≡ false
    none_there zero b = none b
    none_there (suc j) b = h j b
there lt Q i x xs none (Some p) h = record {
  at = suc h.at;
  place = omega (arith, h.place);
  holds = h.holds;
  before = there_before lt Q i x xs p none h;
}

pub from_law : {A B : Type 0} (lt : B → B → Type 0) (Q : ℕ → A → B → Bool) (find : ℕ → A → Option B) → ((i : ℕ) (x : A) → IsLeast lt (Q i x) (find i x))
    → (i : ℕ) (xs : List A) → IsFound lt Q i xs (first_from find i xs)
from_law lt Q find each i [] = λ j b. refl
from_law lt Q find each i (x ∷ xs) =
    elim (find i x) as (λ o. IsLeast lt (Q i x) o → IsFound lt Q i (x ∷ xs) (found_or (i + 1) o (first_from find (i + 1) xs))) [
      | None ↦ λ h. there lt Q i x xs h (first_from find (i + 1) xs) (from_law lt Q find each (i + 1) xs)
      | Some b ↦ λ h. record { at = 0; place = omega arith; holds = h.0; before = here_before lt Q i x xs b h.1 }
    ] (each i x)

-- the element found at index 0, or else in the list following index 0, is the first of all
pub front_law : {A B : Type 0} (lt : B → B → Type 0) (Q : ℕ → A → B → Bool) (P : ℕ → B → Bool) (xs : List A)
    → ((j : ℕ) (b : B) → P (suc j) b ≡ within Q 0 xs j b) → (head : Option B) → IsLeast lt (P 0) head → (o : Option (ℕ × B)) → IsFound lt Q 0 xs o
    → IsLeast (Sooner lt) (λ p. P p.0 p.1) (found_or 0 head o)
front_law {A} {B} lt Q P xs same (Some b) h o g = (h.0, λ c l. less c.0 c.1 l)
  where
    less : (n : ℕ) (c : B) → (n < 0) ⊎ ((n ≡ 0) × lt c b) → P n c ≡ false
    less zero c (inl l) = absurd (omega arith)
    less zero c (inr e) = h.1 c e.1
    less (suc n) c (inl l) = absurd (omega arith)
    less (suc n) c (inr e) = absurd (omega (arith, e.0))
front_law {A} {B} lt Q P xs same None h None g = λ p. none p.0 p.1
  where
    none : (n : ℕ) (b : B) → P n b ≡ false
    none zero b = h b
    none (suc j) b = same j b ∙ g j b
front_law {A} {B} lt Q P xs same None h (Some p) g = (subst (λ n. P n p.1 ≡ true) (sym place) (same g.at p.1 ∙ g.holds), λ c l. less c.0 c.1 l)
  where
    place : p.0 ≡ suc g.at
    place = omega (arith, g.place)

    less : (n : ℕ) (c : B) → (n < p.0) ⊎ ((n ≡ p.0) × lt c p.1) → P n c ≡ false
    less zero c l = h c
    less (suc n) c (inl l) = same n c ∙ g.before n c (inl (omega (arith, g.place)))
    less (suc n) c (inr e) = same n c ∙ g.before n c (inr (omega (arith, g.place, e.0), e.1))

within_from : {A B : Type 0} (Q : ℕ → A → B → Bool) (i : ℕ) (xs : List A) (j : ℕ) (b : B) → within Q i xs j b ≡ passes_at (λ x. Q (i + j) x b) xs j
within_from Q i [] j b = refl
within_from Q i (x ∷ xs) zero b = subst (λ n. Q i x b ≡ Q n x b) (sym (add-zero i)) refl
within_from Q i (x ∷ xs) (suc j) b =
    let e : i + 1 + j ≡ i + suc j = omega arith in
    subst (λ n. within Q (i + 1) xs j b ≡ passes_at (λ x. Q n x b) xs j) e (within_from Q (i + 1) xs j b)

pub within_at : {A B : Type 0} (Q : ℕ → A → B → Bool) (xs : List A) (j : ℕ) (b : B) → within Q 0 xs j b ≡ passes_at (λ x. Q j x b) xs j
within_at Q xs j b = subst (λ n. within Q 0 xs j b ≡ passes_at (λ x. Q n x b) xs j) (zero-add j) (within_from Q 0 xs j b)
