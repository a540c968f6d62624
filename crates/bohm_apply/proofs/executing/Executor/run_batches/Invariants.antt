use Rattle.std.proofs.Common.{◌≡◌, length, take, All, IsSome}
use Rattle.bohm_place.specs.CutLogs.{cutting_of}
use Rattle.bohm_place.specs.Cuttings.{ahead}
use Rattle.bohm_apply.specs.Runs.{IsApplied}
use Rattle.bohm_apply.proofs.executing.Executor.run_batches.Given as goal

abbrev pub invariant-loop-place : goal.invariant-loop-place
invariant-loop-place g l =
    (length l.receiver.notes ≡ l.place) × All (λ taken. IsSome taken.plan) l.receiver.notes × (l.start ≡ ahead (cutting_of l.log).sizes l.place)
    × (l.self.keep ≡ l.initial.self.keep)
    × IsApplied l.initial.progress.history l.progress.history (take l.start (cutting_of l.log).log) l.self.keep l.progress.replies
