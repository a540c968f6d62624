use Rattle.std.proofs.Common.{◌≡◌, ◌-◌, ◌∙◌, ℕ, max, ap, arith}
use Rattle.bohm_txn.specs.Serial.{replies}
use Rattle.bohm_store.specs.Versions.{past, versions, versions_to}
use Rattle.bohm_apply.proofs.Going.{taken_back, trimmed_on}
use Rattle.bohm_apply.proofs.serial_executor.SerialExecutor.run_batch.Goals as goal

pub rewind-requires-clause-there : goal.rewind-requires-clause-there
rewind-requires-clause-there c =
    let (n, a, ran, early) = c.in-Err.ensures.some in
    omega (arith, ran.top, c.top-top.ensures.top)

pub returns-in-Err-clause-same : goal.returns-in-Err-clause-same
returns-in-Err-clause-same c =
    let was = c.args.history.now in
    taken_back was c.run.new.history c.rewind.new.self c.args.txns.now 4294967295 (omega (arith, c.requires.timestamps)) c.in-Err.ensures.some
    c.rewind.ensures.floor (c.rewind.ensures.top ∙ c.top-top.ensures.top) (λ ts le. c.rewind.ensures.past ts (omega (arith, le, c.top-top.ensures.top)))
    c.rewind.ensures.distinct (λ k. c.rewind.ensures.versions k ∙ ap (λ (ts : ℕ). versions_to ts (versions c.run.new.history k)) c.top-top.ensures.top)

pub returns-clause-applied : goal.returns-clause-applied
returns-clause-applied c =
    let was = c.args.history.now in
    let mid = c.run.new.history in
    let low : c.trim.new.self.floor ≡ max mid.floor (mid.top - c.args.keep) =
    c.trim.ensures.floor ∙ ap (max mid.floor) (c.saturating_sub.ensures ∙ ap (λ (n : ℕ). n - c.args.keep) c.top.ensures.top) in
    trimmed_on was mid c.trim.new.self c.args.txns.now 4294967295 c.args.keep (replies (past was was.top) c.args.txns.now) c.requires.some
    (omega (arith, c.requires.timestamps)) c.in_default.ensures.applied low c.trim.ensures.top c.trim.ensures.count c.trim.ensures.past
