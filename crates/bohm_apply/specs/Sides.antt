-- The initial state of the executing side of a cut log.
use Rattle.std.specs.Prelude.{◌≡◌, ◌+◌, ◌≤◌, List, []}
use Rattle.bohm_place.specs.Cuttings.{Cutting}
use Rattle.bohm_apply.specs.declared.plan_queue.note.PlanNote.{PlanNote}
use Rattle.bohm_apply.specs.declared.executing.Progress.{Progress}

-- nothing has been taken or answered, and the log starts after the history's top
pub record CanExecute (line log : Cutting) (taken : List PlanNote) (progress : Progress) : Type 0 where
  pub cutting : line ≡ log
  pub first : log.first ≡ progress.history.top + 1
  pub ordered : progress.history.floor ≤ progress.history.top
  pub unanswered : progress.replies ≡ []
  pub untaken : taken ≡ []
