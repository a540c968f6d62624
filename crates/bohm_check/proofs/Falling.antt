-- The first key that isn't above the one before it.
use Rattle.std.proofs.Common.{◌≡◌, ℕ, suc, ◌+◌, ◌-◌, ◌≤◌, List, [], ◌∷◌, length, drop, Some, refl, ap, sym, ◌∙◌, subst, arith}
use Rattle.std.specs.Prelude.{if◌then◌else◌}
use Rattle.std.specs.List.{slice_get}
use Rattle.std.proofs.lemmas.List.{length-drop}
use Rattle.bohm_txn.proofs.ForCallers.{below, drop_at}
use Rattle.bohm_check.specs.Lines.{first_fall}

fall_next : (ks : List (List ℕ)) (i : ℕ) (a b : List ℕ) → slice_get ks i ≡ Some a → slice_get ks (i + 1) ≡ Some b
    → first_fall (drop i ks) ≡ suc (if below a b then first_fall (drop (i + 1) ks) else 0)
fall_next ks i a b at next = rw (drop_at ks i a at, drop_at ks (i + 1) b next) refl

pub fall_at : (ks : List (List ℕ)) (i : ℕ) (a b : List ℕ) → 1 ≤ i → slice_get ks (i - 1) ≡ Some a → slice_get ks i ≡ Some b
    → first_fall (drop (i - 1) ks) ≡ suc (if below a b then first_fall (drop i ks) else 0)
fall_at ks i a b first at next =
    let there : i ≡ i - 1 + 1 = omega (arith, first) in
    fall_next ks (i - 1) a b at (subst (λ n. slice_get ks n ≡ Some b) there next) ∙ ap (λ n. suc (if below a b then first_fall (drop n ks) else 0)) (sym there)

few_fall : (ks : List (List ℕ)) → length ks ≤ 1 → first_fall ks ≡ length ks
few_fall [] few = refl
few_fall (x ∷ []) few = refl
few_fall (x ∷ y ∷ ks) few = absurd (omega (arith, few))

pub last_falls : (ks : List (List ℕ)) (i : ℕ) → length ks ≤ i → first_fall (drop (i - 1) ks) ≡ length ks - (i - 1)
last_falls ks i end = few_fall (drop (i - 1) ks) (omega (arith, length-drop (i - 1) ks, end)) ∙ length-drop (i - 1) ks
