-- What a pass learns in one step on a position.
use Rattle.std.specs.Prelude.{◌≡◌, ◌≤◌, ℕ, [], ◌∷◌, ◌++◌, Vec, length, vec_capacity}
use Rattle.std.specs.Global.{Global}
use Rattle.bohm_board.specs.declared.batch.Batch.{Batch}
use Rattle.bohm_board.specs.declared.board.Board.{Board}
use Rattle.bohm_board.specs.declared.pass.Pass.{Pass}
use Rattle.bohm_board.specs.declared.knowledge.View.{View}
use Rattle.bohm_board.specs.Batches.{IsIn, Wants, txns_of}
use Rattle.bohm_board.specs.Passes.{IsPassOf, Holds, HoldsNothing, IsDone, Keeps, KnowsWanted, batch_of, view}
use Rattle.bohm_exec.specs.declared.stepper.Stepper.{Stepper}
use Rattle.bohm_exec.specs.declared.step.Step.{Step}
use Rattle.bohm_exec.specs.declared.step.Step.TheVariants.{Done, Busy, Needs}

-- a pass of the board that holds nothing
pub record IsFree (b : Board) (p : Pass) : Type 0 where
  pub own : IsPassOf b p
  pub free : HoldsNothing (view p)

-- ---- a pass on its board

-- the batch of the board
abbrev pub batch_on : Stepper → Batch
batch_on s = batch_of s.board.now

-- what the pass knows
abbrev pub seen_by : Stepper → View
seen_by s = view s.pass.now

-- the board and the pass are unchanged, except for what the pass learned
pub record IsSame (s z : Stepper) : Type 0 where
  pub board : z.board ≡ s.board
  pub pass : z.pass.ghost_name ≡ s.pass.ghost_name

-- a pass that is free for a position of the board's batch
pub record IsFreeFor (s : Stepper) (t : ℕ) : Type 0 where
  pub free : IsFree s.board.now s.pass.now
  pub inside : IsIn (batch_on s) t

-- a pass of the board, and a position of the board's batch
pub record IsPassFor (s : Stepper) (t : ℕ) : Type 0 where
  pub own : IsPassOf s.board.now s.pass.now
  pub inside : IsIn (batch_on s) t

-- a pass that has claimed the position, knows its wanted slots, and has filled none of the position's own slots
pub record HasClaimed (s : Stepper) (t : ℕ) : Type 0 where
  pub own : IsPassOf s.board.now s.pass.now
  pub inside : IsIn (batch_on s) t
  pub held : Holds (batch_on s) (seen_by s) t
  pub wanted : KnowsWanted (batch_on s) (seen_by s) t
  pub empty : (seen_by s).filled ≡ []

-- the position t wants the position u, which the pass hasn't seen Done
abbrev pub IsMissing : Stepper → ℕ → ℕ → Type 0
IsMissing s t u = Wants (batch_on s) t u × ¬ IsDone (batch_on s) (seen_by s) u

-- the stack is empty, with capacity for all positions of the batch
pub record IsEmptyFor (b : Batch) (stack : Vec ℕ Global) : Type 0 where
  pub empty : stack.items ≡ []
  pub room : length (txns_of b) ≤ vec_capacity stack

-- slots were looked up, and nothing else changed
pub record LooksOnly (v w : View) : Type 0 where
  pub keeps : Keeps v w
  pub done : w.done ≡ v.done
  pub finished : w.finished ≡ v.finished
  pub busy : w.busy ≡ v.busy
  pub held : w.held ≡ v.held
  pub stored : w.stored ≡ v.stored
  pub filled : w.filled ≡ v.filled

-- slots were looked up, nothing else changed, and the pass still belongs to the board
pub record Looks (s z : Stepper) : Type 0 where
  pub same : IsSame s z
  pub own : IsPassOf s.board.now z.pass.now
  pub view : LooksOnly (seen_by s) (seen_by z)

-- the position was seen Done, and no position was seen Busy
pub record SeesDone (b : Batch) (v : View) (t : ℕ) (w : View) : Type 0 where
  pub done : w.done ≡ v.done ++ t ∷ []
  pub busy : w.busy ≡ v.busy

-- the position was seen Busy, and no position was seen Done
pub record SeesBusy (b : Batch) (v : View) (t : ℕ) (w : View) : Type 0 where
  pub done : w.done ≡ v.done
  pub busy : w.busy ≡ v.busy ++ t ∷ []

-- the position wants u, which wasn't seen Done
pub record SeesNeed (b : Batch) (v : View) (t u : ℕ) (w : View) : Type 0 where
  pub done : w.done ≡ v.done
  pub busy : w.busy ≡ v.busy
  pub wants : Wants b t u
  pub undone : ¬ IsDone b v u

-- the result of a whole step on a position
abbrev pub TookTurn : Batch → View → ℕ → Step → View → Type 0
TookTurn b v t Done w = SeesDone b v t w
TookTurn b v t Busy w = SeesBusy b v t w
TookTurn b v t (Needs u) w = SeesNeed b v t u w

-- the effect of a step on t on a free pass
pub record Steps (s : Stepper) (t : ℕ) (step : Step) (z : Stepper) : Type 0 where
  pub same : IsSame s z
  pub free : IsFree s.board.now z.pass.now
  pub keeps : Keeps (seen_by s) (seen_by z)
  pub took : TookTurn (batch_on s) (seen_by s) t step (seen_by z)
