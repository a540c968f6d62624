-- The positions that a sweep has deferred so far.
use Rattle.std.proofs.Common.{◌≡◌, ℕ, ◌+◌, ◌<◌, List, [], ◌∷◌, ◌++◌, get_or, refl, sym, ap, ◌∙◌, subst, ⊎_elim, inl, inr, append_assoc, arith}
use Rattle.std.specs.Prelude.{All, Contains, ◌⊎◌}
use mathlib.Core.List.{map-append}
use mathlib.Core.Logic.{dite}
use native.Mathlib.Decide.{ℕ_discrete}
use Rattle.std.proofs.lemmas.List.Elements.{Contains-push, Contains-append_left}
use Rattle.bohm_board.specs.declared.batch.Batch.{Batch}
use Rattle.bohm_board.specs.declared.knowledge.View.{View}
use Rattle.bohm_board.specs.Passes.{IsDone, Keeps}
use Rattle.bohm_board.proofs.ForCallers.{still_done}
use Rattle.bohm_exec.specs.Asides.{Pairs, IsAccountedFor, IsPickedFrom, positions_in, busy_in}

positions_push : (pairs : Pairs) (p : ℕ × ℕ) → positions_in (pairs ++ p ∷ []) ≡ positions_in pairs ++ p.0 ∷ []
positions_push pairs p = map-append (λ (q : ℕ × ℕ). q.0) pairs (p ∷ [])

busy_push : (pairs : Pairs) (p : ℕ × ℕ) → busy_in (pairs ++ p ∷ []) ≡ busy_in pairs ++ p.1 ∷ []
busy_push pairs p = map-append (λ (q : ℕ × ℕ). q.1) pairs (p ∷ [])

-- ---- each position is accounted for

pub accounted_later : (b : Batch) (v w : View) (pairs : Pairs) (t : ℕ) → Keeps v w → IsAccountedFor b v pairs t → IsAccountedFor b w pairs t
accounted_later b v w pairs t keeps a = ⊎_elim (λ (d : IsDone b v t). inl (still_done b v w t keeps d)) (λ (c : Contains (positions_in pairs) t). inr c) a

pub accounted_pushed : (b : Batch) (v : View) (pairs : Pairs) (p : ℕ × ℕ) (t : ℕ) → IsAccountedFor b v pairs t → IsAccountedFor b v (pairs ++ p ∷ []) t
accounted_pushed b v pairs p t a = ⊎_elim (λ (d : IsDone b v t). inl d)
    (λ (c : Contains (positions_in pairs) t). inr
    (subst (λ (xs : List ℕ). Contains xs t) (sym (positions_push pairs p)) (Contains-append_left (positions_in pairs) (p.0 ∷ []) t c))) a

pub accounted_here : (b : Batch) (v : View) (pairs : Pairs) (p : ℕ × ℕ) → IsAccountedFor b v (pairs ++ p ∷ []) p.0
accounted_here b v pairs p = inr (subst (λ (xs : List ℕ). Contains xs p.0) (sym (positions_push pairs p)) (Contains-push (positions_in pairs) p.0))

-- each position is in a list that equals the positions seen Done, or is in a pair
pub accounted_as : (b : Batch) (v : View) (pairs : Pairs) (share done : List ℕ) → done ≡ v.done → All (IsAccountedFor b v pairs) share
    → All (λ t. Contains done t ⊎ Contains (positions_in pairs) t) share
accounted_as b v pairs share done same all = subst (λ (xs : List ℕ). All (λ t. Contains xs t ⊎ Contains (positions_in pairs) t) share) (sym same) all

-- a property of the first n positions of a share and of the next one holds for the first n + 1
pub next : (P : ℕ → Type 0) (share : List ℕ) (n : ℕ) → ((i : ℕ) → i < n → P (get_or share i 0)) → P (get_or share n 0) → (i : ℕ) → i < n + 1
    → P (get_or share i 0)
next P share n all here i l = dite (ℕ_discrete i n) (λ e. subst (λ (z : ℕ). P (get_or share z 0)) (sym e) here) (λ ne. all i (omega arith))

-- ---- the positions seen Busy

pub busy_more : (old now new : List ℕ) (pairs : Pairs) (p : ℕ × ℕ) → now ≡ old ++ busy_in pairs → new ≡ now ++ p.1 ∷ [] → new ≡ old ++ busy_in (pairs ++ p ∷ [])
busy_more old now new pairs p before e =
    e ∙ (ap (λ (xs : List ℕ). xs ++ p.1 ∷ []) before
    ∙ (append_assoc old (busy_in pairs) (p.1 ∷ []) ∙ ap (λ (xs : List ℕ). old ++ xs) (sym (busy_push pairs p))))

-- ---- deferred positions are in the order of the sweep

pub picked_skip : (xs ys : List ℕ) (y : ℕ) → IsPickedFrom xs ys → IsPickedFrom xs (ys ++ y ∷ [])
picked_skip [] ys y p = tt {0}
picked_skip (x ∷ xs) [] y p = absurd p
picked_skip (x ∷ xs) (z ∷ ys) y p = ⊎_elim
    (λ (q : (x ≡ z) × IsPickedFrom xs ys). inl (q.0, picked_skip xs ys y q.1))
    (λ (q : IsPickedFrom (x ∷ xs) ys). inr (picked_skip (x ∷ xs) ys y q)) p

picked_more : (xs ys : List ℕ) (y : ℕ) → IsPickedFrom xs ys → IsPickedFrom (xs ++ y ∷ []) (ys ++ y ∷ [])
picked_more [] [] y p = inl (refl, tt {0})
picked_more [] (z ∷ ys) y p = inr (picked_more [] ys y (tt {0}))
picked_more (x ∷ xs) [] y p = absurd p
picked_more (x ∷ xs) (z ∷ ys) y p = ⊎_elim
    (λ (q : (x ≡ z) × IsPickedFrom xs ys). inl (q.0, picked_more xs ys y q.1))
    (λ (q : IsPickedFrom (x ∷ xs) ys). inr (picked_more (x ∷ xs) ys y q)) p

pub picked_pair : (pairs : Pairs) (p : ℕ × ℕ) (ys : List ℕ) → IsPickedFrom (positions_in pairs) ys
    → IsPickedFrom (positions_in (pairs ++ p ∷ [])) (ys ++ p.0 ∷ [])
picked_pair pairs p ys picked = subst (λ (xs : List ℕ). IsPickedFrom xs (ys ++ p.0 ∷ [])) (sym (positions_push pairs p))
    (picked_more (positions_in pairs) ys p.0 picked)
