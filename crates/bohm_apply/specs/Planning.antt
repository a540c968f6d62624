-- The initial state of the planning side of a cut log.
use Rattle.std.specs.Prelude.{◌≡◌, ◌<◌, List, [], All, length}
use Rattle.bohm_place.specs.declared.placeholder.Placeholder.{Placeholder}
use Rattle.bohm_place.specs.Cuttings.{Cutting}
use Rattle.bohm_apply.specs.declared.plan_queue.note.PlanNote.{PlanNote}

-- nothing has been sent, there is a worker, and no worker has a placeholder of the log
pub record CanPlan (line log : Cutting) (sent : List PlanNote) (newest : List (List Placeholder)) : Type 0 where
  pub cutting : line ≡ log
  pub position : 0 < log.first
  pub workers : 0 < length newest
  pub earlier : All (All (λ v. v.begin < log.first)) newest
  pub unsent : sent ≡ []
