use Rattle.std.proofs.Common.{◌≡◌, ◌+◌, ◌<◌, ℕ, All, Some, length, slice_get}
use Rattle.bohm_place.specs.Plans.{Planned}
use Rattle.bohm_place.specs.CutLogs.{cutting_of}
use Rattle.bohm_place.specs.Cuttings.{ahead, IsPlanAt}
use Rattle.bohm_place.proofs.log_plan.plan_batches.Given as goal

abbrev pub invariant-loop-place : goal.invariant-loop-place
invariant-loop-place g l = record {
  start : l.start ≡ ahead (cutting_of l.log).sizes l.place;
  count : length l.plans.items ≡ l.place;
  each : (i : ℕ) (p : Planned) → slice_get l.plans.items i ≡ Some p → IsPlanAt (cutting_of l.log) i p;
  workers : 0 < length l.newest.items;
  earlier : All (All (λ v. v.begin < (cutting_of l.log).first + l.start)) l.newest.items;
}
