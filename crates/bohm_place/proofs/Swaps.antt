-- Two lists that exchange the parts of one worker.
use Rattle.std.proofs.Common.{◌≡◌, ◌≢◌, ℕ, ◌+◌, ◌<◌, ◌%◌, ◌==◌, ◌&&◌, Bool, true, false, List, length, slice_get}
use Rattle.std.proofs.Common.{slice_set, Some, sym, ◌∙◌, inl, inr, ◌⊎◌, arith, refl, if◌then◌else◌, nat_lt}
use Rattle.std.proofs.lemmas.Bool.{cases_eq, le-ltb, lt-ltb}
use Rattle.std.proofs.lemmas.Bool.Decides.{nat_tests}
use Rattle.bohm_place.proofs.Lists.{set_same, set_other}

lt_apart_by : (j p : ℕ) (b : Bool) → nat_lt j p ≡ b → j ≢ p → nat_lt j (p + 1) ≡ b
lt_apart_by j p true e apart = grind (arith, nat_tests)
lt_apart_by j p false e apart = grind (arith, nat_tests)

pub lt_apart : (j p : ℕ) → j ≢ p → nat_lt j (p + 1) ≡ nat_lt j p
lt_apart j p apart = lt_apart_by j p (nat_lt j p) refl apart

module _ {T : Type 0} (n w : ℕ) where
  -- in a, the worker's parts below index p are those of b0, and all other parts are those of a0
  abbrev pub Mixed : ℕ → List T → List T → List T → Type 0
  Mixed p a a0 b0 = (j : ℕ) → j < length a0 → slice_get a j ≡ (if (nat_lt j p && ((j % n) == w)) then slice_get b0 j else slice_get a0 j)

  swapped_by : (p : ℕ) (a b a0 b0 : List T) (y : T) → p < length a → length a ≡ length a0 → length b0 ≡ length a0 → slice_get b p ≡ Some y
      → ((p % n) == w) ≡ true → Mixed p a a0 b0 → Mixed p b b0 a0
      → (j : ℕ) → j < length a0 → (j ≡ p) ⊎ (j ≢ p)
      → slice_get (slice_set a p y) j ≡ (if (nat_lt j (p + 1) && ((j % n) == w)) then slice_get b0 j else slice_get a0 j)
  swapped_by p a b a0 b0 y inside len len' at mine ma mb j low (inl e) =
      let low' : p < length b0 = omega arith in
      let before = mb p low' in
      let was : slice_get b p ≡ slice_get b0 p = rw (le-ltb p p (omega arith)) at before in
      rw (e, lt-ltb p (p + 1) (omega arith), mine, set_same a p y inside) (sym at ∙ was)
  swapped_by p a b a0 b0 y inside len len' at mine ma mb j low (inr apart) = rw (lt_apart j p apart, set_other a p j y apart) (ma j low)

  pub swapped : (p : ℕ) (a b a0 b0 : List T) (y : T) → p < length a → length a ≡ length a0 → length b0 ≡ length a0 → slice_get b p ≡ Some y
      → ((p % n) == w) ≡ true → Mixed p a a0 b0 → Mixed p b b0 a0 → Mixed (p + 1) (slice_set a p y) a0 b0
  swapped p a b a0 b0 y inside len len' at mine ma mb j low = swapped_by p a b a0 b0 y inside len len' at mine ma mb j low (cases_eq j p)

  kept_by : (p : ℕ) (a a0 b0 : List T) → ((p % n) == w) ≡ false → Mixed p a a0 b0 → (j : ℕ) → j < length a0 → (j ≡ p) ⊎ (j ≢ p)
      → slice_get a j ≡ (if (nat_lt j (p + 1) && ((j % n) == w)) then slice_get b0 j else slice_get a0 j)
  kept_by p a a0 b0 mine ma j low (inl e) =
      let before = ma j low in
      let was = rw (e, le-ltb p p (omega arith)) at before in
      rw (e, lt-ltb p (p + 1) (omega arith), mine) was
  kept_by p a a0 b0 mine ma j low (inr apart) = rw (lt_apart j p apart) (ma j low)

  pub kept : (p : ℕ) (a a0 b0 : List T) → ((p % n) == w) ≡ false → Mixed p a a0 b0 → Mixed (p + 1) a a0 b0
  kept p a a0 b0 mine ma j low = kept_by p a a0 b0 mine ma j low (cases_eq j p)

  ended_by : (p : ℕ) (a a0 b0 : List T) → length a0 ≡ p → Mixed p a a0 b0 → (j : ℕ) → j < length a0 → nat_lt j p ≡ true
      → slice_get a j ≡ (if ((j % n) == w) then slice_get b0 j else slice_get a0 j)
  ended_by p a a0 b0 len ma j low t = let h = ma j low in rw t at h

  pub ended : (p : ℕ) (a a0 b0 : List T) → length a0 ≡ p → Mixed p a a0 b0 → (j : ℕ) → j < length a0
      → slice_get a j ≡ (if ((j % n) == w) then slice_get b0 j else slice_get a0 j)
  ended p a a0 b0 len ma j low = ended_by p a a0 b0 len ma j low (grind (arith, nat_tests))
