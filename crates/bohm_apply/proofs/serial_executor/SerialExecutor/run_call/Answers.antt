use Rattle.std.proofs.Common.{◌≡◌, ◌∙◌, ◌+◌, ◌-◌, ◌∷◌, [], ℕ, max, ap, arith}
use Rattle.bohm_txn.specs.Serial.{replies}
use Rattle.bohm_log.proofs.ForCallers.{on_err}
use Rattle.bohm_store.specs.Versions.{past, versions, versions_to}
use Rattle.bohm_apply.proofs.Going.{none_earlier, none_settled, settled_on, still_same, taken_back, trimmed_on}
use Rattle.bohm_apply.proofs.serial_executor.SerialExecutor.run_call.Goals as goal

pub returns-in_err-outcome-clause-same : goal.returns-in_err-outcome-clause-same
returns-in_err-outcome-clause-same c =
    on_err c.from_residual.result (still_same c.args.history.now c.run_call.new.self c.in_err-outcome.ensures.same)

pub returns-in-Err-clause-same : goal.returns-in-Err-clause-same
returns-in-Err-clause-same c =
    let was = c.args.history.now in
    let mid = c.run_call.new.self in
    let (t, run) = c.requires.runs in
    let settled = c.in_ok-outcome.ensures.settled t run in
    let all = settled_on was mid (t ∷ []) 4294967295 (omega arith) settled in
    let early = none_settled was was mid (t ∷ []) ((was.top + 1) - 4294967295) (omega arith) settled (none_earlier was) in
    taken_back was mid c.rewind.new.self (t ∷ []) 4294967295 (omega (arith, c.requires.timestamp)) (1, replies (past was was.top) (t ∷ []), all, early)
    c.rewind.ensures.floor (c.rewind.ensures.top ∙ c.top-top.ensures.top) (λ ts le. c.rewind.ensures.past ts (omega (arith, le, c.top-top.ensures.top)))
    c.rewind.ensures.distinct (λ k. c.rewind.ensures.versions k ∙ ap (λ (ts : ℕ). versions_to ts (versions mid k)) c.top-top.ensures.top)

pub returns-clause-applied : goal.returns-clause-applied
returns-clause-applied c t run =
    let was = c.args.history.now in
    let mid = c.run_call.new.self in
    let all = settled_on was mid (t ∷ []) 4294967295 (omega arith) (c.in_ok-outcome.ensures.settled t run) in
    let low : c.trim.new.self.floor ≡ max mid.floor (mid.top - c.args.keep) =
    c.trim.ensures.floor ∙ ap (max mid.floor) (c.saturating_sub.ensures ∙ ap (λ (n : ℕ). n - c.args.keep) c.top.ensures.top) in
    trimmed_on was mid c.trim.new.self (t ∷ []) 4294967295 c.args.keep (replies (past was was.top) (t ∷ [])) (omega arith)
    (omega (arith, c.requires.timestamp)) all low c.trim.ensures.top c.trim.ensures.count c.trim.ensures.past
