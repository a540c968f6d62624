use Rattle.std.proofs.Common.{arith}
use Rattle.bohm_log.proofs.Failing.{on_err}
use Rattle.bohm_log.proofs.Widening.{interns_both, numbered_next}
use Rattle.bohm_log.proofs.columns.Columns.add_names.Goals as goal

pub returns-in_err-add_name-clause-err : goal.returns-in_err-add_name-clause-err
returns-in_err-add_name-clause-err g c = on_err _ (interns_both _ _ _ c.loop-name.invariant.0.interns c.in_err-add_name.ensures.err)

pub loop-name-preserved : goal.loop-name-preserved
loop-name-preserved g c = (
  numbered_next _ _ _ c.args.names.now c.loop-name.name-index c.name-item.result c.loop-name-test.true c.name-item.is
      c.loop-name.invariant.0 c.in_ok-add_name.ensures.ok,
  omega (arith, c.loop-name.invariant.1, c.in_ok-add_name.ensures.few),
)
