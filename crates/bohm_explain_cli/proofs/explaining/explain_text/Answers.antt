use Rattle.std.proofs.Common.{ap, arith, Err, List, ℕ, subst, sym}
use Rattle.std.specs.Prelude.{Option}
use Rattle.std.proofs.lemmas.Result.{err_from_is_err_and}
use Rattle.bohm_answer.specs.Bytes.{ReadsAll}
use Rattle.bohm_report.proofs.ForCallers.{of_reading}
use Rattle.bohm_explain_cli.proofs.Refusals.{before_writing}
use Rattle.bohm_explain_cli.proofs.explaining.explain_text.Goals as goal

pub returns-in_err-text-clause-err : goal.returns-in_err-text-clause-err
returns-in_err-text-clause-err g c =
    let p = err_from_is_err_and c.from_residual.result c.from_residual.ensures.1 in
    let refused = of_reading _ _ c.in_err-text.field-0.0 c.in_err-text.ensures.refusals (λ e. c.in_err-text.ensures.long (ap (λ f. Err f) e)) in
    rw (p.1, p.2) (before_writing c.args.wish _ _ _ _ c.in_err-text.field-0.0 refused.1 refused.0)

pub returns-in_err-printed-clause-err : goal.returns-in_err-printed-clause-err
returns-in_err-printed-clause-err g c =
    let p = err_from_is_err_and c.from_residual-in_err-printed.result c.from_residual-in_err-printed.ensures.1 in
    let unread : Option (List ℕ) = g.R.Read.remaining c.args.reader.now in
    let unread' : Option (List ℕ) = g.R.Read.remaining c.read_all.new.reader in
    let written : Option (List ℕ) = g.W.Write.contents c.args.writer.now in
    let read : ReadsAll unread unread' c.in_ok-text.text.items =
    record { read = c.in_ok-text.ensures.bytes; at_end = c.in_ok-text.ensures.end; short = c.in_ok-text.ensures.short } in
    rw (p.1, p.2) (before_writing c.args.wish unread unread' written written c.in_err-printed.field-0.0 c.in_err-printed.ensures.before
    (c.in_err-printed.ensures.err unread unread' (subst (λ (bytes : List ℕ). ReadsAll unread unread' bytes) (sym c.as_slice.ensures.value) read)))
