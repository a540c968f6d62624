use Rattle.bohm_log.proofs.Failing.{on_err}
use Rattle.bohm_log.proofs.Widening.{interns_both}
use Rattle.bohm_log.proofs.columns.Columns.add_arguments.Goals as goal

pub returns-in_err-add_argument-clause-err : goal.returns-in_err-add_argument-clause-err
returns-in_err-add_argument-clause-err g c = on_err _ (interns_both _ _ _ c.loop-name.invariant.0.interns c.in_err-add_argument.ensures.err)
