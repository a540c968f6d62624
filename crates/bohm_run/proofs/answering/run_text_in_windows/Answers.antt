use Rattle.std.proofs.Common.{◌∙◌, arith}
use Rattle.std.proofs.lemmas.Result.{err_from_is_err_and, on_ok_weaker, IfErr-weaker}
use Rattle.bohm_txn.proofs.ForCallers.{few_txns}
use Rattle.bohm_run.proofs.Refusals.{before_writing}
use Rattle.bohm_run.proofs.AnswerLaws.{unreadable, written, unwritten}
use Rattle.bohm_run.proofs.answering.run_text_in_windows.Goals as goal

pub returns-in_err-state-clause-err : goal.returns-in_err-state-clause-err
returns-in_err-state-clause-err g c =
    let p = err_from_is_err_and c.from_residual.result c.from_residual.ensures.1 in
    rw (p.1, p.2) (before_writing c.args.settings _ _ _ _ _ _ c.in_err-state.field-0.0 c.in_err-state.ensures.before
    (c.in_err-state.ensures.err c.args.settings))

pub readable_time-requires : goal.readable_time-requires
readable_time-requires g c =
    let run = c.in_ok-state.ensures.ok in
    omega (arith, run.count, few_txns run.document run.read.well_formed)

pub returns-in_err-ts-clause-err : goal.returns-in_err-ts-clause-err
returns-in_err-ts-clause-err g c =
    let p = err_from_is_err_and c.from_residual-in_err-ts.result c.from_residual-in_err-ts.ensures.1 in
    rw (p.1, p.2) (unreadable c.args.settings _ _ _ _ c.in_ok-state.state c.in_ok-state.ensures.ok c.in_err-ts.field-0.0 c.in_err-ts.ensures.refused)

pub answer-requires-clause-kept : goal.answer-requires-clause-kept
answer-requires-clause-kept g c =
    let run = c.in_ok-state.ensures.ok in
    omega (arith, run.history.floor, run.count, c.in_ok-ts.ensures.readable.kept)

pub answer-requires-clause-there : goal.answer-requires-clause-there
answer-requires-clause-there g c =
    let run = c.in_ok-state.ensures.ok in
    omega (arith, run.history.top, run.count, c.in_ok-ts.ensures.readable.there)

pub returns-clause-ok : goal.returns-clause-ok
returns-clause-ok g c =
    let run = c.in_ok-state.ensures.ok in
    on_ok_weaker c.write_all.result (written c.args.settings _ _ _ _ c.in_ok-state.state run c.in_ok-ts.ts c.in_ok-ts.ensures.readable _
    (c.as_slice.ensures.value ∙ c.in_ok-text.ensures c.args.settings.keep _ _ run)) c.write_all.ensures.ok

pub returns-clause-err : goal.returns-clause-err
returns-clause-err g c =
    let run = c.in_ok-state.ensures.ok in
    IfErr-weaker c.write_all.result _ _ (unwritten c.args.settings _ _ _ _ c.in_ok-state.state run c.in_ok-ts.ts c.in_ok-ts.ensures.readable _
    (c.as_slice.ensures.value ∙ c.in_ok-text.ensures c.args.settings.keep _ _ run)) c.write_all.ensures.err
