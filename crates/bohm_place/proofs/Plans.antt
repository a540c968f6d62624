-- A property of each plan in a list, after one more plan is appended.
use Rattle.std.proofs.Common.{◌≡◌, ℕ, zero, suc, List, [], ◌∷◌, ◌++◌, length, slice_get, Some, subst}
use Rattle.std.proofs.lemmas.Option.{same_Some}
use Rattle.bohm_place.specs.Plans.{Planned}

-- if P holds for each plan at its index and for the appended plan, it holds for each plan of the longer list
pub plan_more : (P : ℕ → Planned → Type 0) (ps : List Planned) (q : Planned) → ((i : ℕ) (p : Planned) → slice_get ps i ≡ Some p → P i p) → P (length ps) q
    → (i : ℕ) (p : Planned) → slice_get (ps ++ q ∷ []) i ≡ Some p → P i p
plan_more P [] q each last zero p e = subst (P 0) (same_Some q p e) last
plan_more P [] q each last (suc i) p e = absurd cc
plan_more P (x ∷ xs) q each last zero p e = each 0 p e
plan_more P (x ∷ xs) q each last (suc i) p e = plan_more (λ n r. P (suc n) r) xs q (λ n r h. each (suc n) r h) last i p e
