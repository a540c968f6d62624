use Rattle.std.proofs.Common.{◌≡◌, ◌+◌, ◌-◌, ◌++◌, ◌∷◌, [], ℕ, List, length, take, arith, subst, ⊎_elim}
use Rattle.bohm_txn.specs.declared.outcome.Reply.{Reply}
use Rattle.bohm_txn.specs.Meaning.{body}
use Rattle.bohm_txn.specs.Serial.{replies, reply_of}
use Rattle.bohm_txn.proofs.ForCallers.{length-replies}
use Rattle.bohm_store.specs.Versions.{past}
use Rattle.bohm_apply.specs.Runs.{IsApplied}
use Rattle.bohm_apply.proofs.Going.{at_rest, none_earlier, none_same, none_settled, stayed}
use Rattle.bohm_apply.proofs.Ordered.{one_more}
use Rattle.bohm_log.proofs.ForCallers.{on_err}
use Rattle.bohm_apply.proofs.serial_executor.SerialExecutor.run.Goals as goal

pub returns-in_err-cover-clause-some : goal.returns-in_err-cover-clause-some
returns-in_err-cover-clause-some g c =
    let was = c.args.history.now in
    on_err c.from_residual.result (0, [], at_rest was c.args.keep, none_earlier was)

pub returns-in_err-reserve-clause-some : goal.returns-in_err-reserve-clause-some
returns-in_err-reserve-clause-some g c =
    let was = c.args.history.now in
    on_err c.from_residual-in_err-reserve.result (0, [], at_rest was c.args.keep, none_earlier was)

pub returns-in_err-cover-clause-behind : goal.returns-in_err-cover-clause-behind
returns-in_err-cover-clause-behind g c =
    on_err c.from_residual.result ([], g.met.S.ReplySink.nothing (c.args.history.now.top + 1) c.args.answered.now)

pub returns-in_err-reserve-clause-behind : goal.returns-in_err-reserve-clause-behind
returns-in_err-reserve-clause-behind g c =
    on_err c.from_residual-in_err-reserve.result ([], c.reserve.ensures (c.args.history.now.top + 1))

pub loop-index-init : goal.loop-index-init
loop-index-init g c =
    let was = c.args.history.now in
    record { applied = at_rest was c.args.keep; earlier = none_earlier was; answered = c.reserve.ensures (was.top + 1) }

pub returns-in_err-run_next-clause-some : goal.returns-in_err-run_next-clause-some
returns-in_err-run_next-clause-some g c =
    let was = c.args.history.now in
    let at = c.loop-index in
    let txns = c.args.txns.now in
    let new = c.run_next.new.history in
    let told = replies (past was was.top) (take at.index txns) in
    let next = told ++ reply_of (body (past at.history at.history.top) c.txn.result) ∷ [] in
    on_err c.from_residual-in_err-run_next.result (⊎_elim
    (λ same. (
      at.index,
      told,
      stayed was at.history new (take at.index txns) c.args.keep told same at.invariant.applied,
      none_same was at.history new same at.invariant.earlier,
    ))
    (λ settled. (
      at.index + 1,
      next,
      one_more was at.history new txns at.index c.args.keep c.txn.result told c.requires.ordered c.txn.ensures
          at.invariant.applied settled,
      none_settled was at.history new (c.txn.result ∷ []) ((at.history.top + 1) - c.args.keep) (omega (arith, at.invariant.applied.top)) settled
          at.invariant.earlier,
    ))
    c.in_err-run_next.ensures.tried)

pub returns-in_err-run_next-clause-behind : goal.returns-in_err-run_next-clause-behind
returns-in_err-run_next-clause-behind g c =
    let was = c.args.history.now in
    let at = c.loop-index in
    let told = replies (past was was.top) (take at.index c.args.txns.now) in
    let old = c.args.answered.now in
    let new = c.run_next.new.answered in
    let place : at.history.top + 1 ≡ (was.top + 1) + length told =
    omega (arith, at.invariant.applied.top, length-replies (past was was.top) (take at.index c.args.txns.now)) in
    on_err c.from_residual-in_err-run_next.result (
      told ++ [],
      g.met.S.ReplySink.joined (was.top + 1) old at.answered new told [] at.invariant.answered
          (subst (λ (n : ℕ). g.S.ReplySink.appended n at.answered [] new) place c.in_err-run_next.ensures.unanswered),
    )

pub loop-index-preserved : goal.loop-index-preserved
loop-index-preserved g c =
    let was = c.args.history.now in
    let at = c.loop-index in
    let txns = c.args.txns.now in
    let new = c.run_next.new.history in
    let done = c.in_ok-run_next.ensures in
    let told = replies (past was was.top) (take at.index txns) in
    let place : at.history.top + 1 ≡ (was.top + 1) + length told =
    omega (arith, at.invariant.applied.top, length-replies (past was was.top) (take at.index txns)) in
    let old = c.args.answered.now in
    let answered = c.run_next.new.answered in
    let own : List Reply = reply_of (body (past at.history at.history.top) c.txn.result) ∷ [] in
    let on : IsApplied was new (take (at.index + 1) txns) c.args.keep (told ++ own) =
    one_more was at.history new txns at.index c.args.keep c.txn.result told c.requires.ordered c.txn.ensures at.invariant.applied done.settled in
    record {
      applied = subst (λ (rs : List Reply). IsApplied was new (take (at.index + 1) txns) c.args.keep rs) on.replies on;
      earlier = none_settled was at.history new (c.txn.result ∷ []) ((at.history.top + 1) - c.args.keep) (omega (arith, at.invariant.applied.top))
          done.settled at.invariant.earlier;
      answered = subst (λ (rs : List Reply). g.S.ReplySink.appended (was.top + 1) old rs answered) on.replies
          (g.met.S.ReplySink.joined (was.top + 1) old at.answered answered told own at.invariant.answered
          (subst (λ (n : ℕ). g.S.ReplySink.appended n at.answered own answered) place done.reply));
    }
