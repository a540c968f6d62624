use Rattle.std.proofs.Common.{Err, ap}
use Rattle.std.proofs.lemmas.Result.{err_from_is_err_and}
use Rattle.bohm_check_cli.proofs.Refused.{of_reading, of_text}
use Rattle.bohm_check_cli.proofs.checking.check_text.Goals as goal

pub returns-in_err-text-clause-err : goal.returns-in_err-text-clause-err
returns-in_err-text-clause-err g c =
    let p = err_from_is_err_and c.from_residual.result c.from_residual.ensures.1 in
    rw (p.1, p.2) (of_reading _ _ _ _ c.in_err-text.field-0.0 c.in_err-text.ensures.refusals
    (λ e. c.in_err-text.ensures.long (ap (λ f. Err f) e)))

pub returns-in_err-line-clause-err : goal.returns-in_err-line-clause-err
returns-in_err-line-clause-err g c =
    let p = err_from_is_err_and c.from_residual-in_err-line.result c.from_residual-in_err-line.ensures.1 in
    rw (p.1, p.2) (of_text _ _ _ _ c.in_ok-text.text.items c.as_slice.result.now c.in_err-line.field-0.0 c.as_slice.ensures.value
    c.in_ok-text.ensures.bytes c.in_ok-text.ensures.end c.in_ok-text.ensures.short c.in_err-line.ensures.before c.in_err-line.ensures.err)
