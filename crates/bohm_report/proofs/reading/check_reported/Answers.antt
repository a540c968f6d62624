use Rattle.std.proofs.Common.{sym, subst}
use Rattle.bohm_run.specs.Headline.{IsBeforeWriting}
use Rattle.bohm_report.proofs.TextRefusals.{told_refuses, refused_early}
use Rattle.bohm_report.proofs.reading.check_reported.Goals as goal

pub returns-in-Err-clause-err : goal.returns-in-Err-clause-err
returns-in-Err-clause-err g c = λ given unread unread' read.
    told_refuses unread unread' _ c.in-Err.refusal _ read c.in-Err.ensures.err c.fault_of.ensures given

pub returns-in-Err-clause-before : goal.returns-in-Err-clause-before
returns-in-Err-clause-before g c =
    subst IsBeforeWriting (sym c.fault_of.ensures) (refused_early _ c.in-Err.refusal c.in-Err.ensures.err)
