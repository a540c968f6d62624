use Rattle.std.proofs.Common.{◌∙◌, ◌+◌, ◌∷◌, [], ℕ, subst, sym}
use Rattle.bohm_txn.specs.declared.outcome.Reply.{Reply}
use Rattle.bohm_txn.specs.Meaning.{body}
use Rattle.bohm_txn.specs.Serial.{reply_with}
use Rattle.bohm_store.specs.Versions.{past}
use Rattle.bohm_txn.proofs.ForCallers.{replied}
use Rattle.bohm_log.proofs.ForCallers.{on_err}
use Rattle.bohm_apply.proofs.serial_executor.SerialExecutor.run_next.Goals as goal

pub returns-in_err-outcome-clause-unanswered : goal.returns-in_err-outcome-clause-unanswered
returns-in_err-outcome-clause-unanswered g c =
    on_err c.from_residual.result (g.met.S.ReplySink.nothing (c.args.history.now.top + 1) c.args.answered.now)

pub returns-in_err-push-clause-unanswered : goal.returns-in_err-push-clause-unanswered
returns-in_err-push-clause-unanswered g c =
    on_err c.from_residual-in_err-push.result
    (subst (λ (n : ℕ). g.S.ReplySink.appended (n + 1) c.args.answered.now [] c.push.new.self) c.top-number.ensures.top c.in_err-push.ensures.err)

pub returns-clause-reply : goal.returns-clause-reply
returns-clause-reply g c =
    let was = c.args.history.now in
    let ran = c.in_ok-outcome.ensures in
    let outcome = c.in_ok-outcome.outcome in
    let shows = c.shows.result.now in
    let old = c.args.answered.now in
    let new = c.push.new.self in
    let is = replied (body (past was was.top) c.args.txn.now) outcome shows ran.outcome (ran.shows ∙ sym c.shows.ensures) in
    subst (λ (r : Reply). g.S.ReplySink.appended (was.top + 1) old (r ∷ []) new) is
    (subst (λ (n : ℕ). g.S.ReplySink.appended (n + 1) old (reply_with outcome shows ∷ []) new) c.top-number.ensures.top c.in_ok-push.ensures.ok)
