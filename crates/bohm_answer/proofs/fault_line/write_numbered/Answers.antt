use Rattle.bohm_answer.specs.FaultLine.{spaced_decimal}
use Rattle.bohm_answer.proofs.Fronts.{then_err, wider}
use Rattle.bohm_answer.proofs.fault_line.write_numbered.Goals as goal
use Rattle.bohm_log.proofs.ForCallers.{on_err}

pub returns-in_err-write_bytes-clause-err : goal.returns-in_err-write_bytes-clause-err
returns-in_err-write_bytes-clause-err g c = on_err c.from_residual.result
    (wider _ _ c.args.words.now (spaced_decimal c.args.number) c.in_err-write_bytes.ensures.err)

pub returns-clause-err : goal.returns-clause-err
returns-clause-err g c = then_err _ _ _ c.args.words.now
    (spaced_decimal c.args.number) c.in_ok-write_bytes.ensures.ok c.write_spaced.result c.write_spaced.ensures.err
