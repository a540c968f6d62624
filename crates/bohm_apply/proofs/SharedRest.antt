-- The positions of a shared batch that a pass sees, and those that are left.
use Rattle.std.proofs.Common.{◌≡◌, ℕ, ◌+◌, ◌<◌, List, [], ◌∷◌, ◌++◌, All, refl, subst, ⊎_elim, inl, inr, arith}
use Rattle.std.specs.Prelude.{Contains, ◌⊎◌}
use Rattle.std.proofs.lemmas.Bool.{cases_lt}
use Rattle.std.proofs.lemmas.List.Elements.{All-contains, Contains-append_left, Contains-push}
use Rattle.bohm_board.specs.declared.batch.Batch.{Batch}
use Rattle.bohm_board.specs.declared.knowledge.View.{View}
use Rattle.bohm_board.specs.declared.status.Status.{Status}
use Rattle.bohm_board.specs.declared.status.Status.TheVariants.{Open, Busy, Done}
use Rattle.bohm_board.specs.Batches.{IsIn, first_of, position}
use Rattle.bohm_board.specs.Passes.{IsDone, HoldsNothing, Keeps}
use Rattle.bohm_board.specs.Views.{after_status}
use Rattle.bohm_board.proofs.ForCallers.{keeps_saw, still_done}
use Rattle.bohm_exec.specs.Asides.{Pairs, IsAccountedFor, IsSetAside, positions_in}
use Rattle.bohm_apply.specs.Sweeps.{AreAllSwept, IsLeftBy}

pub saw_free : (v : View) (t : ℕ) (s : Status) → HoldsNothing v → HoldsNothing (after_status v t s)
saw_free v t Open h = h
saw_free v t Busy h = h
saw_free v t Done h = h

-- of the first n positions the pass saw each Done, or it is among these
abbrev pub IsLeftBelow : Batch → View → List ℕ → ℕ → Type 0
IsLeftBelow b v left n = (t : ℕ) → IsIn b t → position b t < n → IsDone b v t ⊎ Contains left t

-- the next position was seen Done
pub left_done : (b : Batch) (v : View) (left : List ℕ) (n t : ℕ) → t ≡ first_of b + n → IsLeftBelow b v left n
    → IsLeftBelow b (after_status v t Done) left (n + 1)
left_done b v left n t is before u within low = ⊎_elim
    (λ (early : position b u < n). ⊎_elim
    (λ (d : IsDone b v u). inl (still_done b v (after_status v t Done) u (keeps_saw v t Done) d))
    (λ (c : Contains left u). inr c)
    (before u within early))
    (λ late.
    let here : t ≡ u = omega (arith, is, late, low, within.from) in
    inl (subst (λ (x : ℕ). Contains (v.done ++ t ∷ []) x) here (Contains-push v.done t)))
    (cases_lt (position b u) n)

-- the next position is added to those that are left
pub left_more : (b : Batch) (v : View) (left : List ℕ) (n t : ℕ) (s : Status) → t ≡ first_of b + n → IsLeftBelow b v left n
    → IsLeftBelow b (after_status v t s) (left ++ t ∷ []) (n + 1)
left_more b v left n t s is before u within low = ⊎_elim
    (λ (early : position b u < n). ⊎_elim
    (λ (d : IsDone b v u). inl (still_done b v (after_status v t s) u (keeps_saw v t s) d))
    (λ (c : Contains left u). inr (Contains-append_left left (t ∷ []) u c))
    (before u within early))
    (λ late.
    let here : t ≡ u = omega (arith, is, late, low, within.from) in
    inr (subst (λ (x : ℕ). Contains (left ++ t ∷ []) x) here (Contains-push left t)))
    (cases_lt (position b u) n)

-- a sweep of the positions that are left accounts for the whole batch
pub swept_left : (b : Batch) (v w : View) (left : List ℕ) (aside : Pairs) → Keeps v w → IsLeftBy b v left → All (IsAccountedFor b w aside) left
    → AreAllSwept b w (aside ∷ [])
swept_left b v w left aside keeps before all t within = ⊎_elim
    (λ (d : IsDone b v t). inl (still_done b v w t keeps d))
    (λ (c : Contains left t). ⊎_elim
    (λ (d : IsDone b w t). inl d)
    (λ (m : Contains (positions_in aside) t). inr (aside, Contains-push [] aside, m))
    (All-contains (IsAccountedFor b w aside) left t all c))
    (before t within)
