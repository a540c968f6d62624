use Rattle.std.proofs.Common.{[], ◌∷◌}
use Rattle.bohm_answer.specs.FaultLine.{fault_words}
use Rattle.bohm_answer.proofs.Fronts.{then_err, wider}
use Rattle.bohm_answer.proofs.fault_line.write_fault.Goals as goal
use Rattle.bohm_log.proofs.ForCallers.{on_err}

pub returns-in_err-write_words-clause-err : goal.returns-in_err-write_words-clause-err
returns-in_err-write_words-clause-err g c = on_err c.from_residual.result
    (wider _ _ (fault_words c.args.fault.now) (10 ∷ []) c.in_err-write_words.ensures.err)

pub returns-clause-err : goal.returns-clause-err
returns-clause-err g c = then_err _ _ _ (fault_words c.args.fault.now) (10 ∷ []) c.in_ok-write_words.ensures.ok c.write_bytes.result c.write_bytes.ensures.err
