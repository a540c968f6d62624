-- The results of a batch's workers.
use Rattle.std.specs.Prelude.{◌≡◌, ℕ, ◌%◌, ◌<◌, List, [], length, Contains, ◌⊎◌, IfOk}
use Rattle.bohm_board.specs.declared.batch.Batch.{Batch}
use Rattle.bohm_board.specs.declared.board.Board.{Board}
use Rattle.bohm_board.specs.declared.knowledge.View.{View}
use Rattle.bohm_board.specs.Batches.{IsIn, position}
use Rattle.bohm_board.specs.Passes.{IsPassOf, HoldsNothing, IsDone, batch_of, view}
use Rattle.bohm_exec.specs.Counts.{counted_on}
use Rattle.bohm_exec.specs.Asides.{Pairs, IsAccountedFor, IsSetAside}
use Rattle.bohm_apply.specs.declared.workers.scratch_pool.ScratchPool.{ScratchPool}
use Rattle.bohm_apply.specs.declared.workers.job.Worker.{Worker}
use Rattle.bohm_apply.specs.declared.workers.job.Job.{Job}
use Rattle.bohm_apply.specs.declared.workers.job.Swept.{Swept}

abbrev pub workers_of : ScratchPool → ℕ
workers_of c = c.count

-- a job on the board: its pass holds nothing, and has finished nothing
pub record IsReady (b : Board) (j : Job) : Type 0 where
  pub own : IsPassOf b j.pass
  pub free : HoldsNothing (view j.pass)
  pub unused : (view j.pass).finished ≡ []
  pub worker : j.worker.number < j.worker.count

-- the pass saw each of the worker's positions Done, or the position is in a pair
abbrev pub IsShareSwept : Batch → Worker → View → Pairs → Type 0
IsShareSwept b w v pairs = (t : ℕ) → IsIn b t → position b t % w.count ≡ w.number → IsAccountedFor b v pairs t

-- a worker's result: its share is swept, unless an allocation failed, and it made as many evaluations as its pass finished positions
pub record IsSwept (b : Board) (w : Worker) (s : Swept) : Type 0 where
  pub own : IsPassOf b s.pass
  pub free : HoldsNothing (view s.pass)
  pub counted : s.evaluations ≡ counted_on 0 (length (view s.pass).finished)
  pub share : IfOk s.aside (IsShareSwept (batch_of b) w (view s.pass))

-- the pass saw each position of the batch Done, or the position was deferred
abbrev pub AreAllSwept : Batch → View → List Pairs → Type 0
AreAllSwept b v asides = (t : ℕ) → IsIn b t → IsDone b v t ⊎ IsSetAside asides t

-- the pass saw each position of the batch Done, or it is among these
abbrev pub IsLeftBy : Batch → View → List ℕ → Type 0
IsLeftBy b v left = (t : ℕ) → IsIn b t → IsDone b v t ⊎ Contains left t
