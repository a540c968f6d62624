use Rattle.std.proofs.Common.{take}
use Rattle.bohm_check.specs.Reports.{IsOwnText}
use Rattle.bohm_check.proofs.Reporting.{AreReported}
use Rattle.bohm_check.proofs.report.put_faults.Given as goal

abbrev pub invariant-loop-told : goal.invariant-loop-told
invariant-loop-told l = (IsOwnText l.fn.page → IsOwnText l.shown)
    × (IsOwnText l.fn.page → AreReported (take l.told-index l.faults) l.initial.out.items l.out.items)
