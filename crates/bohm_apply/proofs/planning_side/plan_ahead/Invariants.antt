use Rattle.std.proofs.Common.{◌≡◌, ◌+◌, ◌<◌, All, IsSome, length}
use Rattle.bohm_place.specs.CutLogs.{cutting_of}
use Rattle.bohm_place.specs.Cuttings.{ahead}
use Rattle.bohm_apply.proofs.planning_side.plan_ahead.Given as goal

abbrev pub invariant-loop-place : goal.invariant-loop-place
invariant-loop-place g l = record {
  start : l.start ≡ ahead (cutting_of l.log).sizes l.place;
  queue : l.sender.queue ≡ l.initial.sender.queue;
  sent : length l.sender.notes ≡ l.place;
  open_ : All (λ x. IsSome x.plan) l.sender.notes;
  workers : 0 < length l.newest.items;
  earlier : All (All (λ v. v.begin < (cutting_of l.log).first + l.start)) l.newest.items;
}
