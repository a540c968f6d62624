-- Sweeps of workers: one share, and all shares once the workers' passes are joined.
use Rattle.std.proofs.Common.{◌≡◌, ℕ, ◌+◌, ◌-◌, ◌%◌, ◌<◌, List, [], ◌∷◌, ◌++◌, length, get_or, All, refl, sym, ap, ◌∙◌, subst, ⊎_elim, inl, inr, arith}
use Rattle.std.specs.Prelude.{Contains, ◌⊎◌}
use Rattle.std.proofs.lemmas.List.Elements.{All-contains, All-contains_itself, Contains-append_left, Contains-push}
use Rattle.std.proofs.lemmas.Nat.{mod_below}
use mathlib.Core.Logic.{dite}
use native.Mathlib.Decide.{ℕ_discrete}
use Rattle.bohm_board.specs.declared.batch.Batch.{Batch}
use Rattle.bohm_board.specs.declared.closed.Closed.{Closed}
use Rattle.bohm_board.specs.declared.knowledge.View.{View}
use Rattle.bohm_board.specs.Batches.{IsIn, first_of, txns_of, position}
use Rattle.bohm_board.specs.Closings.{batch_of_closed, IsFinished, IsUnfinished}
use Rattle.bohm_board.specs.Passes.{IsDone, Keeps}
use Rattle.bohm_board.specs.Views.{after_join}
use Rattle.bohm_board.proofs.ForCallers.{still_done, keeps_joined, joined_done}
use Rattle.bohm_exec.specs.Asides.{Pairs, IsAccountedFor, IsPickedFrom, IsSetAside, positions_in}
use Rattle.bohm_exec.specs.Shares.{share}
use Rattle.bohm_exec.proofs.ForCallers.{share_covers, share_inside, picked_contains}
use Rattle.bohm_apply.specs.declared.workers.job.Worker.{Worker}
use Rattle.bohm_apply.specs.Sweeps.{IsShareSwept, AreAllSwept}

-- ---- one share

-- the positions of a share are positions of the batch
pub inside : (b : Batch) (w : Worker) (first len : ℕ) (xs : List ℕ) → first ≡ first_of b → len ≡ length (txns_of b) → xs ≡ share first len w.number w.count
    → All (IsIn b) xs
inside b w first len xs from long is = subst (All (IsIn b)) (sym is) (λ k d low.
    let here = share_inside first len w.number w.count k d low in
    record { from = omega (arith, from, here.0); below = omega (arith, from, long, here.1) })

-- positions that are picked from positions of the batch, such as deferred ones, are in the batch too
pub inside_again : (b : Batch) (xs ys : List ℕ) → IsPickedFrom xs ys → All (IsIn b) ys → All (IsIn b) xs
inside_again b xs ys picked all = λ k d low. All-contains (IsIn b) ys (get_or xs k d) all
    (picked_contains xs ys (get_or xs k d) picked (All-contains_itself xs k d low))

pub swept_once : (b : Batch) (w : Worker) (v : View) (pairs : Pairs) (first len : ℕ) (xs : List ℕ) → first ≡ first_of b → len ≡ length (txns_of b)
    → xs ≡ share first len w.number w.count → All (IsAccountedFor b v pairs) xs → IsShareSwept b w v pairs
swept_once b w v pairs first len xs from long is all = λ t within mine.
    let number : (t - first) % w.count ≡ w.number = ap (λ (z : ℕ). (t - z) % w.count) from ∙ mine in
    let covered = share_covers first len w.count t (omega (arith, from, within.from)) (omega (arith, from, long, within.below)) in
    let here : Contains xs t = subst (λ (ys : List ℕ). Contains ys t) (sym is) (subst (λ (n : ℕ). Contains (share first len n w.count) t) number covered) in
    All-contains (IsAccountedFor b v pairs) xs t all here

-- a share is swept if a second sweep accounts for each position that the first sweep deferred
pub swept_again : (b : Batch) (w : Worker) (u v : View) (first again : Pairs) → Keeps u v → IsShareSwept b w u first
    → All (IsAccountedFor b v again) (positions_in first) → IsShareSwept b w v again
swept_again b w u v first again keeps once all = λ t within mine. ⊎_elim
    (λ (d : IsDone b u t). inl (still_done b u v t keeps d))
    (λ (c : Contains (positions_in first) t). All-contains (IsAccountedFor b v again) (positions_in first) t all c)
    (once t within mine)

-- ---- the shares of several workers

-- each position in the shares of the first n workers was seen Done or was deferred
abbrev pub AreSwept : Batch → ℕ → ℕ → View → List Pairs → Type 0
AreSwept b workers n v asides = (t : ℕ) → IsIn b t → position b t % workers < n → IsDone b v t ⊎ IsSetAside asides t

set_aside_before : (asides : List Pairs) (pairs : Pairs) (t : ℕ) → IsSetAside asides t → IsSetAside (asides ++ pairs ∷ []) t
set_aside_before asides pairs t (p, c, m) = (p, Contains-append_left asides (pairs ∷ []) p c, m)

set_aside_last : (asides : List Pairs) (pairs : Pairs) (t : ℕ) → Contains (positions_in pairs) t → IsSetAside (asides ++ pairs ∷ []) t
set_aside_last asides pairs t m = (pairs, Contains-push asides pairs, m)

-- joining the next worker's pass adds that worker's share to the swept ones
pub swept_more : (b : Batch) (w : Worker) (u v : View) (asides : List Pairs) (pairs : Pairs) → AreSwept b w.count w.number u asides → IsShareSwept b w v pairs
    → AreSwept b w.count (w.number + 1) (after_join u v) (asides ++ pairs ∷ [])
swept_more b w u v asides pairs before this = λ t within low. dite (ℕ_discrete (position b t % w.count) w.number)
    (λ mine. ⊎_elim
    (λ (d : IsDone b v t). inl (joined_done b u v t d))
    (λ (c : Contains (positions_in pairs) t). inr (set_aside_last asides pairs t c))
    (this t within mine))
    (λ other. ⊎_elim
    (λ (d : IsDone b u t). inl (still_done b u (after_join u v) t (keeps_joined u v) d))
    (λ (s : IsSetAside asides t). inr (set_aside_before asides pairs t s))
    (before t within (omega (arith, low, other))))

-- with the shares of all workers, each position of the batch was seen Done or was deferred
pub swept_all : (b : Batch) (workers n : ℕ) (v : View) (asides : List Pairs) → 0 < workers → n ≡ workers → AreSwept b workers n v asides
    → AreAllSwept b v asides
swept_all b workers n v asides some all swept = λ t within. swept t within (omega (arith, mod_below (position b t) workers some, all))

-- a position that has no outcome on the closed board was deferred
pub left_aside : (closed : Closed) (b : Batch) (v : View) (asides : List Pairs) → batch_of_closed closed ≡ b → AreAllSwept b v asides
    → ((t : ℕ) → IsDone b v t → IsFinished closed t)
    → (t : ℕ) → IsIn (batch_of_closed closed) t → IsUnfinished closed t → IsSetAside asides t
left_aside closed b v asides is all done t within left = ⊎_elim
    (λ (d : IsDone b v t). absurd (let finished = done t d in omega (arith, finished, left)))
    (λ (s : IsSetAside asides t). s)
    (all t (subst (λ (x : Batch). IsIn x t) is within))

-- ---- lists

pub at_length : {X : Type 0} (ys : List X) (x : X) (rest : List X) (d : X) → get_or (ys ++ x ∷ rest) (length ys) d ≡ x
at_length [] x rest d = refl
at_length (y ∷ ys) x rest d = at_length ys x rest d

pub nothing_left : {X : Type 0} (xs : List X) → length xs ≡ 0 → xs ≡ []
nothing_left [] h = refl
nothing_left (x ∷ xs) h = absurd (omega arith)

pub first_of_some : {X : Type 0} (xs : List X) → 0 < length xs → X
first_of_some [] h = absurd (omega arith)
first_of_some (x ∷ xs) h = x
