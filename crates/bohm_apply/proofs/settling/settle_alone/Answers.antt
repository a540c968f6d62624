use Rattle.std.proofs.Common.{◌≡◌, ◌+◌, ◌-◌, ◌++◌, ◌∙◌, [], List, length, take, ap, sym, subst, arith}
use Rattle.std.proofs.lemmas.List.{take_all}
use Rattle.bohm_txn.specs.declared.outcome.Reply.{Reply}
use Rattle.bohm_txn.specs.Serial.{replies}
use Rattle.bohm_txn.proofs.ForCallers.{length-replies}
use Rattle.bohm_board.specs.Batches.{base_of, txns_of}
use Rattle.bohm_exec.specs.Answers.{batch_of_finished}
use Rattle.bohm_store.specs.Nexts.{IsSettledKept}
use Rattle.bohm_store.specs.Versions.{past}
use Rattle.bohm_store.proofs.ForCallers.{next_replies}
use Rattle.bohm_apply.specs.Replies.{replies_of}
use Rattle.bohm_apply.specs.Runs.{IsApplied}
use Rattle.bohm_log.proofs.ForCallers.{on_err}
use Rattle.bohm_apply.proofs.Going.{settled_on, still_here, still_same}
use Rattle.bohm_apply.proofs.settling.settle_alone.Goals as goal

pub settle_kept-requires-clause-floor : goal.settle_kept-requires-clause-floor
settle_kept-requires-clause-floor c = omega (arith, c.top.ensures.top, c.len-count.ensures, c.saturating_sub-floor.ensures)

pub returns-clause-applied : goal.returns-clause-applied
returns-clause-applied c =
    let h = c.args.history.now in
    let new = c.settle_kept.new.self in
    let keep = c.args.keep in
    let b = batch_of_finished c.args.finished.now in
    let txns = txns_of b in
    let told = replies_of c.args.finished.now in
    let (start, bare, made) = c.in_ok-replies.ensures in
    let long : length told ≡ length txns = length-replies (base_of b) txns in
    let floor : c.saturating_sub-floor.result ≡ (h.top + length txns) - keep =
    c.saturating_sub-floor.ensures ∙ (λ i. (c.top.ensures.top i + c.len-count.ensures i) - keep) in
    let done : IsSettledKept h new txns ((h.top + length txns) - keep) = subst (IsSettledKept h new txns) floor c.in_ok-settle_kept.ensures.ok in
    let applied = settled_on h new txns keep b.batched.some done in
    let all : take c.len-count.result told ≡ told = take_all c.len-count.result told (omega (arith, long, c.len-count.ensures)) in
    let same : c.in_ok-replies.replies ≡ replies (past h h.top) txns =
    made ∙ ap (λ (rs : List Reply). rs ++ take c.len-count.result told) bare ∙ all ∙ next_replies h b c.requires in
    subst (IsApplied h new txns keep) (sym same) applied

pub returns-in_err-replies-clause-still : goal.returns-in_err-replies-clause-still
returns-in_err-replies-clause-still c = on_err c.from_residual.result (still_here c.args.history.now)

pub returns-in_err-settle_kept-clause-still : goal.returns-in_err-settle_kept-clause-still
returns-in_err-settle_kept-clause-still c = on_err c.from_residual-in_err-settle_kept.result
    (still_same c.args.history.now c.settle_kept.new.self c.in_err-settle_kept.ensures.err)
