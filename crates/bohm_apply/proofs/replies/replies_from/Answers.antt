use Rattle.std.proofs.Common.{◌≡◌, ◌+◌, ◌-◌, ◌<◌, ◌∷◌, [], ℕ, List, Some, length, take, drop, slice_get, sym, ap, arith, subst, ◌∙◌}
use Rattle.std.specs.Prelude.{min}
use Rattle.std.proofs.lemmas.List.{length-drop, length-take-le, take_min}
use Rattle.bohm_txn.specs.declared.outcome.Reply.{Reply}
use Rattle.bohm_txn.specs.Meaning.{body}
use Rattle.bohm_txn.specs.Serial.{reply_of, state}
use Rattle.bohm_txn.proofs.ForCallers.{length-replies, there}
use Rattle.bohm_board.specs.Batches.{base_of, first_of, txn_at, txns_of}
use Rattle.bohm_exec.specs.Answers.{batch_of_finished}
use Rattle.bohm_apply.specs.Replies.{replies_of}
use Rattle.bohm_apply.proofs.Replying.{next_reply}
use Rattle.bohm_apply.proofs.replies.replies_from.Goals as goal

pub loop-index-init : goal.loop-index-init
loop-index-init g c =
    let u = first_of (batch_of_finished c.args.finished.now) + c.args.from in
    (c.empty-replies.result, c.empty-replies.ensures, c.in_ok-reserve.ensures u)

pub loop-index-preserved : goal.loop-index-preserved
loop-index-preserved g c =
    let b = batch_of_finished c.args.finished.now in
    let txns = txns_of b in
    let r = replies_of c.args.finished.now in
    let from = c.args.from in
    let i = c.loop-index.index in
    let t = (c.first-first.result + from) + i in
    let u = first_of b + from in
    let (start, bare, before) = c.loop-index.invariant in
    let place : t - first_of b ≡ from + i = omega (arith, c.first-first.ensures) in
    let inside : from + i < length txns = omega (arith, c.len.ensures, c.min-count.ensures, c.loop-index.auto.index-end, c.loop-index-test.true) in
    let (x, at) = there txns (from + i) inside in
    let here : txn_at b t ≡ Some x = subst (λ (n : ℕ). slice_get txns n ≡ Some x) (sym place) at in
    let own = reply_of (body (state (base_of b) txns (from + i)) x) in
    let many : length r ≡ length txns = length-replies (base_of b) txns in
    let told : length (take i (drop from r)) ≡ i = length-take-le i (drop from r) (omega (arith, length-drop from r, many, inside)) in
    let number : t ≡ u + length (take i (drop from r)) = omega (arith, c.first-first.ensures, told) in
    let mid = c.loop-index.replies in
    let new = c.push_reply.new.replies in
    let pushed = subst (λ (n : ℕ). g.S.ReplySink.appended t mid (reply_of (body (state (base_of b) txns n) x) ∷ []) new) place
    (c.in_ok-push_reply.ensures x here) in (
      start,
      bare,
      subst (λ (rs : List Reply). g.S.ReplySink.appended u start rs c.push_reply.new.replies) (sym (next_reply (base_of b) txns from i x at))
          (g.met.S.ReplySink.joined u start c.loop-index.replies c.push_reply.new.replies (take i (drop from r)) (own ∷ []) before
          (subst (λ (n : ℕ). g.S.ReplySink.appended n c.loop-index.replies (own ∷ []) c.push_reply.new.replies) number pushed)),
    )

pub returns : goal.returns
returns g c =
    let b = batch_of_finished c.args.finished.now in
    let r = replies_of c.args.finished.now in
    let from = c.args.from in
    let rest = drop from r in
    let (start, bare, done) = c.loop-index.invariant in
    let left : c.len.result - from ≡ length rest =
    ap (λ (n : ℕ). n - from) (c.len.ensures ∙ sym (length-replies (base_of b) (txns_of b))) ∙ sym (length-drop from r) in
    let stop : c.loop-index.index ≡ c.min-count.result = omega (arith, c.loop-index-test.false, c.loop-index.auto.index-end) in
    let end : c.loop-index.index ≡ min c.args.count (length rest) = stop ∙ c.min-count.ensures ∙ ap (min c.args.count) left in (
      start,
      bare,
      subst (λ (rs : List Reply). g.S.ReplySink.appended (first_of b + from) start rs c.loop-index.replies)
          (ap (λ (n : ℕ). take n rest) end ∙ take_min c.args.count rest) done,
    )
