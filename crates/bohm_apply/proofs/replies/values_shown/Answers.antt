use Rattle.std.proofs.Common.{◌≡◌, ◌≤◌, ◌++◌, ◌∷◌, [], List, Some, length, sym, ◌∙◌, ap, arith, subst}
use Rattle.std.specs.Prelude.{ℤ}
use Rattle.std.proofs.lemmas.List.{take_all}
use Rattle.std.proofs.lemmas.Option.{same_Some}
use Rattle.bohm_types.specs.Txn.{Txn}
use Rattle.bohm_txn.specs.Declares.{shows_in, IsUsable}
use Rattle.bohm_txn.specs.Meaning.{body}
use Rattle.bohm_txn.specs.Serial.{shows_of}
use Rattle.bohm_board.specs.declared.batch.Batch.{Batch}
use Rattle.bohm_board.specs.Batches.{position, txns_of, txn_at}
use Rattle.bohm_place.proofs.ForCallers.{usable_at as formed_at}
use Rattle.bohm_exec.specs.Answers.{batch_of_finished}
use Rattle.bohm_exec.specs.Moments.{shown, state_before}
use Rattle.bohm_apply.proofs.Replying.{show_more, show_ended, shows_few}
use Rattle.bohm_apply.proofs.replies.values_shown.Goals as goal
use Rattle.bohm_apply.proofs.replies.values_shown.Goals.{After-shows-count, in-Present+in_ok-push, in_default}

there : (c : After-shows-count) → txn_at (batch_of_finished c.args.finished.now) c.args.t ≡ Some c.txn.result
there c = subst (λ (b : Batch). txn_at b c.args.t ≡ Some c.txn.result) c.batch.ensures c.txn.ensures

usable : (c : After-shows-count) → IsUsable c.txn.result
usable c = let b = batch_of_finished c.args.finished.now in formed_at (txns_of b) b.batched.formed (position b c.args.t) c.txn.result (there c)

counted : (c : After-shows-count) → c.shows-count.result ≡ shows_in c.txn.result.body
counted c = c.shows-count.ensures.shows

pub overflow_cast-index-end : goal.overflow_cast-index-end
overflow_cast-index-end c = let a = (goal.at.overflow_cast-index-end c).After-shows-count in omega (arith, (usable a).few_shows, counted a)

pub loop-index-preserved : goal.loop-index-preserved
loop-index-preserved c = λ x at.
    let i = c.loop-index.index in
    let zs = shows_of (body (state_before (batch_of_finished c.args.finished.now) c.args.t) x) in
    let shown_here : shown zs i ≡ c.show.result = c.show.ensures x at in
    elim c.match-show.branch [
      | in-Present+in_ok-push w ↦
          ap (λ v. v.items) w.values-is
          ∙ w.in_ok-push.ensures.items
          ∙ ap (λ (zs : List ℤ). zs ++ w.in-Present.value ∷ []) (c.loop-index.invariant x at)
          ∙ show_more zs i w.in-Present.value (shown_here ∙ w.in-Present.is)
      | in_default w ↦ ap (λ v. v.items) w.values-is ∙ (c.loop-index.invariant x at ∙ show_ended zs i (shown_here ∙ w.in_default.is))
    ]

pub returns : goal.returns
returns c = λ x at.
    let a = (goal.at.returns c).After-shows-count in
    let look = state_before (batch_of_finished c.args.finished.now) c.args.t in
    let same : x ≡ c.txn.result = same_Some x c.txn.result (sym at ∙ there a) in
    let few = shows_few look x in
    let count = counted a ∙ ap (λ (y : Txn). shows_in y.body) (sym same) in
    let all : length (shows_of (body look x)) ≤ c.loop-index.index = omega (arith, few, count) in
    sym (c.loop-index.invariant x at ∙ take_all c.loop-index.index (shows_of (body look x)) all)
