use Rattle.std.proofs.Common.{ap, sym, subst, ◌∙◌}
use Rattle.std.proofs.lemmas.Result.{err_from_is_err_and}
use Rattle.bohm_text.specs.Windowing.{document_of_first}
use Rattle.bohm_reading.specs.Reading.{IsReady}
use Rattle.bohm_reading.proofs.ForCallers.{ready}
use Rattle.bohm_read_ahead.specs.declared.reading_state.ReadingState.{ReadingState}
use Rattle.bohm_run.proofs.StreamLaws.{reading_refused, reading_before, log_refused, log_faulty, log_run}
use Rattle.bohm_run.proofs.streaming.run_log.Goals as goal

pub returns-in_err-first-clause-err : goal.returns-in_err-first-clause-err
returns-in_err-first-clause-err g c =
    let p = err_from_is_err_and c.from_residual.result c.from_residual.ensures.1 in
    rw (p.1, p.2) (λ given. reading_refused given _ _ c.in_err-first.field-0.0 c.in_err-first.ensures.err)

pub returns-in_err-first-clause-before : goal.returns-in_err-first-clause-before
returns-in_err-first-clause-before g c =
    let p = err_from_is_err_and c.from_residual.result c.from_residual.ensures.1 in
    rw (p.1, p.2) (reading_before c.in_err-first.field-0.0)

pub returns-in_err-state-clause-err : goal.returns-in_err-state-clause-err
returns-in_err-state-clause-err g c =
    let p = err_from_is_err_and c.from_residual-in_err-state.result c.from_residual-in_err-state.ensures.1 in rw (p.1, p.2) (λ given. tt)

pub returns-in_err-state-clause-before : goal.returns-in_err-state-clause-before
returns-in_err-state-clause-before g c =
    let p = err_from_is_err_and c.from_residual-in_err-state.result c.from_residual-in_err-state.ensures.1 in rw (p.1, p.2) tt

pub returns-in_err-names-clause-err : goal.returns-in_err-names-clause-err
returns-in_err-names-clause-err g c =
    let p = err_from_is_err_and c.from_residual-in_err-names.result c.from_residual-in_err-names.ensures.1 in rw (p.1, p.2) (λ given. tt)

pub returns-in_err-names-clause-before : goal.returns-in_err-names-clause-before
returns-in_err-names-clause-before g c =
    let p = err_from_is_err_and c.from_residual-in_err-names.result c.from_residual-in_err-names.ensures.1 in rw (p.1, p.2) tt

pub returns-in_err-log_reader-clause-err : goal.returns-in_err-log_reader-clause-err
returns-in_err-log_reader-clause-err g c =
    let p = err_from_is_err_and c.from_residual-in_err-log_reader.result c.from_residual-in_err-log_reader.ensures.1 in rw (p.1, p.2) (λ given. tt)

pub returns-in_err-log_reader-clause-before : goal.returns-in_err-log_reader-clause-before
returns-in_err-log_reader-clause-before g c =
    let p = err_from_is_err_and c.from_residual-in_err-log_reader.result c.from_residual-in_err-log_reader.ensures.1 in rw (p.1, p.2) tt

pub run_to_end-ran-requires-clause-ready : goal.run_to_end-ran-requires-clause-ready
run_to_end-ran-requires-clause-ready g c κs within =
    let source = ap (λ (r : ReadingState). r.source) c.in_ok-log_reader.ensures.state ∙ c.new-reading.ensures.source in
    subst IsReady (sym source) (ready _ (document_of_first c.in_ok-first.first) c.in_ok-first.source c.in_ok-first.ensures.ok.is)

pub returns-in_err-ran-clause-err : goal.returns-in_err-ran-clause-err
returns-in_err-ran-clause-err g c =
    let p = err_from_is_err_and c.from_residual-in_err-ran.result c.from_residual-in_err-ran.ensures.1 in
    let edition = ap (λ (r : ReadingState). r.edition) c.in_ok-log_reader.ensures.state ∙ c.new-reading.ensures.edition in
    let source = ap (λ (r : ReadingState). r.source) c.in_ok-log_reader.ensures.state ∙ c.new-reading.ensures.source in
    let refused = rw (edition, source) at c.in_err-ran.ensures.err in
    rw (p.1, p.2)
    (λ given. log_refused _ _ _ c.in_ok-first.first c.in_ok-first.source c.in_ok-first.ensures.ok given c.in_err-ran.field-0.0 refused)

pub returns-in_err-ran-clause-before : goal.returns-in_err-ran-clause-before
returns-in_err-ran-clause-before g c =
    let p = err_from_is_err_and c.from_residual-in_err-ran.result c.from_residual-in_err-ran.ensures.1 in
    rw (p.1, p.2) (reading_before c.in_err-ran.field-0.0)

pub returns-in-None-clause-ok : goal.returns-in-None-clause-ok
returns-in-None-clause-ok g c =
    let edition = ap (λ (r : ReadingState). r.edition) c.in_ok-log_reader.ensures.state ∙ c.new-reading.ensures.edition in
    let source = ap (λ (r : ReadingState). r.source) c.in_ok-log_reader.ensures.state ∙ c.new-reading.ensures.source in
    let ran = rw (edition, source) at c.in_ok-ran.ensures.ok in
    log_run _ _ _ c.in_ok-first.first c.in_ok-first.source c.in_ok-first.ensures.ok c.args.settings.keep c.in_ok-state.state
    c.run_to_end-ran.new.state c.in_ok-state.ensures ran (c.check_end.ensures.none c.in-None.is) (c.check_end.ensures.kept c.in-None.is)

pub returns-in-Some-clause-err : goal.returns-in-Some-clause-err
returns-in-Some-clause-err g c =
    let edition = ap (λ (r : ReadingState). r.edition) c.in_ok-log_reader.ensures.state ∙ c.new-reading.ensures.edition in
    let source = ap (λ (r : ReadingState). r.source) c.in_ok-log_reader.ensures.state ∙ c.new-reading.ensures.source in
    let ran = rw (edition, source) at c.in_ok-ran.ensures.ok in
    λ given. log_faulty _ _ _ c.in_ok-first.first c.in_ok-first.source c.in_ok-first.ensures.ok c.args.settings.keep c.in_ok-state.state
    c.run_to_end-ran.new.state c.in_ok-state.ensures ran given c.in-Some.fault c.in-Some.ensures.some
