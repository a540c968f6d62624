use Rattle.std.proofs.Common.{ap, ◌∙◌, arith, is_ok, length}
use Rattle.bohm_txn.specs.Stores.{cell_in, store_of}
use Rattle.bohm_apply.proofs.Walks.{whole_count, whole_run}
use Rattle.bohm_apply.proofs.running.run.Goals as goal

pub returns : goal.returns
returns g c =
    let log = c.args.checked.now.log in
    let start = cell_in (store_of c.args.checked.now.store) in
    let opened = c.in_ok-history.ensures in
    let was = c.in_ok-history.history in
    let now = c.apply-replies.new.history in
    let answered = c.apply-replies.result.replies in
    let applied = rw c.log-log.ensures.same at c.apply-replies.ensures.applied in
    let all = rw c.log-log.ensures.same at c.apply-replies.ensures.whole (ap is_ok c.in_ok-end.was) in
    let past = opened.past ∙ ap (λ s. cell_in (store_of s)) c.store.ensures.same in
    let (replies, history) = whole_run start was now log c.args.keep answered opened.floor opened.top past applied all in
    let few = whole_count was now log c.args.keep answered applied all in
    record {
      replies = replies;
      history = history;
      count = omega (arith, few, opened.count, ap length c.store.ensures.same);
    }
