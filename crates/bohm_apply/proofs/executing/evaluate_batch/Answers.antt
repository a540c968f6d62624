use Rattle.std.proofs.Common.{◌≡◌, ◌∙◌, ◌+◌, ℕ, List, Ok, Err, ap, sym, subst, length}
use Rattle.std.specs.Prelude.{Result, IfOk, OnErr, OnOk}
use Rattle.bohm_types.specs.Txn.{Txn}
use Rattle.bohm_txn.specs.declared.outcome.Reply.{Reply}
use Rattle.bohm_txn.specs.Serial.{replies}
use Rattle.bohm_board.specs.Batches.{txns_of}
use Rattle.bohm_exec.specs.Answers.{batch_of_finished}
use Rattle.bohm_store.specs.Nexts.{IsNext}
use Rattle.bohm_store.specs.Versions.{past}
use Rattle.bohm_store.proofs.ForCallers.{next_replies}
use Rattle.bohm_apply.specs.Replies.{replies_of}
use Rattle.bohm_apply.proofs.executing.evaluate_batch.Goals as goal

both : {A E P : Type 0} {Q R : A → Type 0} (r : Result A E) → OnOk r P → IfOk r Q → ((x : A) → P → Q x → R x) → IfOk r R
both (Ok x) p q f = f x p q
both (Err e) p q f = tt

pub returns-clause-evaluated : goal.returns-clause-evaluated
returns-clause-evaluated g c =
    let t = c.args.history.now in
    let txns = c.args.txns.now in
    let b = batch_of_finished c.in_ok-finished.finished in
    let is : b ≡ c.batch_with-batch.result = c.in_ok-finished.ensures.batch in
    let same : txns_of b ≡ txns = ap txns_of is ∙ c.batch_with-batch.ensures.txns in
    let next : IsNext t b = subst (IsNext t) (sym is) c.batch_with-batch.ensures.next in
    let old = c.args.answered.now in
    let new = c.settle_batch.new.answered in
    let told = next_replies t b next ∙ ap (λ (ts : List Txn). replies (past t t.top) ts) same in
    both c.settle_batch.result c.settle_batch.ensures.replies c.settle_batch.ensures.listed (λ shares appended listed. record {
      batch = b;
      same = same;
      listed = record { next = next; many = ap length same; parts = listed };
      told = subst (λ (rs : List Reply). g.S.ReplySink.appended (t.top + 1) old rs new) told
          (subst (λ (n : ℕ). g.S.ReplySink.appended n old (replies_of c.in_ok-finished.finished) new) next.first appended);
    })

pub returns-clause-err : goal.returns-clause-err
returns-clause-err g c =
    let t = c.args.history.now in
    let b = batch_of_finished c.in_ok-finished.finished in
    let next : IsNext t b = subst (IsNext t) (sym c.in_ok-finished.ensures.batch) c.batch_with-batch.ensures.next in
    subst (λ (n : ℕ). OnErr c.settle_batch.result ((more : List Reply) × g.S.ReplySink.appended n c.args.answered.now more c.settle_batch.new.answered))
    next.first c.settle_batch.ensures.err
