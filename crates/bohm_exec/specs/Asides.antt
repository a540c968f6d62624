-- The positions that a sweep defers.
use Rattle.std.specs.Prelude.{◌≡◌, ℕ, List, [], ◌∷◌, ◌++◌, All, map, Contains, ◌⊎◌}
use Rattle.bohm_board.specs.declared.batch.Batch.{Batch}
use Rattle.bohm_board.specs.declared.knowledge.View.{View}
use Rattle.bohm_board.specs.Batches.{Leads}
use Rattle.bohm_board.specs.Passes.{IsDone}

-- pairs of a deferred position and the position that was Busy
abbrev pub Pairs : Type 0
Pairs = List (ℕ × ℕ)

abbrev pub positions_in : Pairs → List ℕ
positions_in pairs = map (λ p. p.0) pairs

abbrev pub busy_in : Pairs → List ℕ
busy_in pairs = map (λ p. p.1) pairs

-- the pass saw the position Done, or the position is in a pair
abbrev pub IsAccountedFor : Batch → View → Pairs → ℕ → Type 0
IsAccountedFor b v pairs t = IsDone b v t ⊎ Contains (positions_in pairs) t

-- each pair's deferred position leads to its Busy position; these are the positions that the pass saw Busy between the views v and w
pub record IsLedToBusy (b : Batch) (v w : View) (pairs : Pairs) : Type 0 where
  pub leads : All (λ p. Leads b p.0 p.1) pairs
  pub busy : w.busy ≡ v.busy ++ busy_in pairs

-- the first list is the second without some of its elements
abbrev pub IsPickedFrom : List ℕ → List ℕ → Type 0
IsPickedFrom [] ys = Unit {0}
IsPickedFrom (x ∷ xs) [] = ⊥
IsPickedFrom (x ∷ xs) (y ∷ ys) = ((x ≡ y) × IsPickedFrom xs ys) ⊎ IsPickedFrom (x ∷ xs) ys

-- in one of these lists a pair has the position as the deferred one
abbrev pub IsSetAside : List Pairs → ℕ → Type 0
IsSetAside asides t = (pairs : Pairs) × Contains asides pairs × Contains (positions_in pairs) t
