use Rattle.std.proofs.Common.{ℕ, List, ap, ◌∙◌, Err, subst}
use Rattle.std.proofs.lemmas.Result.{err_from_is_err_and}
use Rattle.bohm_text.specs.Cut.{whole_lines}
use Rattle.bohm_text.specs.Faults.{IsFirstBadLine, IsShort}
use Rattle.bohm_text.specs.declared.fault.TextFault.{TextFault}
use Rattle.bohm_run.proofs.Refusals.{text_refused}
use Rattle.bohm_run.proofs.answering.read_log.Goals as goal

pub returns-in_err-doc-clause-err : goal.returns-in_err-doc-clause-err
returns-in_err-doc-clause-err g c =
    let p = err_from_is_err_and c.from_residual-in_err-doc.result c.from_residual-in_err-doc.ensures.1 in
    rw (p.1, p.2)
    (λ given. text_refused given _ _ c.in_ok-text.text.items c.in_err-doc.field-0.0
    (record { read = c.in_ok-text.ensures.bytes; at_end = c.in_ok-text.ensures.end; short = c.in_ok-text.ensures.short })
    (λ n e. subst (λ (text : List ℕ). IsFirstBadLine (whole_lines text) n) c.as_slice.ensures.value
    (c.parse_with_seed.ensures.line n (c.in_err-doc.was ∙ ap (λ (fault : TextFault). Err fault) e)))
    (λ e. subst IsShort c.as_slice.ensures.value (c.parse_with_seed.ensures.short (c.in_err-doc.was ∙ ap (λ (fault : TextFault). Err fault) e))))
