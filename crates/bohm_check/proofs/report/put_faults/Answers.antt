use Rattle.std.proofs.Common.{ℕ, List, subst, sym}
use Rattle.bohm_check.specs.Reports.{ReportsSome}
use Rattle.bohm_check.proofs.Reporting.{none_yet, so_far}
use Rattle.bohm_check.proofs.report.put_faults.Goals as goal

pub loop-told-init : goal.loop-told-init
loop-told-init c = (λ own. own, λ own. none_yet c.args.out.now.items)

pub returns : goal.returns
returns c = λ own. so_far c.args.faults.now c.loop-told.told-index c.args.out.now.items c.loop-told.out.items (c.loop-told.invariant.1 own)

pub returns-in-Err : goal.returns-in-Err
returns-in-Err c = λ own.
    subst (λ (now : List ℕ). ReportsSome c.args.faults.now c.args.out.now.items now) (sym c.in-Err.ensures.err)
    (so_far c.args.faults.now c.loop-told.told-index c.args.out.now.items c.loop-told.out.items (c.loop-told.invariant.1 own))
