use Rattle.std.proofs.Common.{◌≡◌, take}
use Rattle.bohm_place.specs.CutLogs.{cutting_of}
use Rattle.bohm_place.specs.Cuttings.{ahead}
use Rattle.bohm_apply.specs.Runs.{IsApplied}
use Rattle.bohm_apply.proofs.serial_executor.SerialExecutor.run_batches.Given as goal

abbrev pub invariant-loop-place : goal.invariant-loop-place
invariant-loop-place l = record {
  start : l.start ≡ ahead (cutting_of l.log).sizes l.place;
  applied : IsApplied l.initial.history l.history (take l.start (cutting_of l.log).log) l.keep l.answered;
}
