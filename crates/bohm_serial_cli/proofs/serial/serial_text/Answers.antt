use Rattle.std.proofs.lemmas.Result.{err_from_is_err_and}
use Rattle.bohm_settings.specs.Given.{defaults}
use Rattle.bohm_run.proofs.ForCallers.{before_writing}
use Rattle.bohm_serial_cli.proofs.serial.serial_text.Goals as goal

pub returns-in_err-checked-clause-err : goal.returns-in_err-checked-clause-err
returns-in_err-checked-clause-err g c =
    let p = err_from_is_err_and c.from_residual.result c.from_residual.ensures.1 in
    rw (p.1, p.2) (before_writing defaults _ _ _ _ _ _ c.in_err-checked.field-0.0 c.in_err-checked.ensures.before (c.in_err-checked.ensures.err defaults))
