use Rattle.std.proofs.Common.{◌≡◌, ◌∙◌, ap, arith, length, take}
use Rattle.std.proofs.Math.Seq.{take-length}
use Rattle.bohm_txn.specs.Serial.{replies}
use Rattle.bohm_txn.specs.Stores.{cell_in, store_of}
use Rattle.bohm_txn.proofs.ForCallers.{length-replies}
use Rattle.bohm_store.specs.Versions.{past}
use Rattle.bohm_apply.specs.Runs.{IsApplied}
use Rattle.bohm_apply.proofs.Walks.{whole_count, whole_run}
use Rattle.bohm_apply.proofs.running.run_in_order.Goals as goal

pub returns : goal.returns
returns g c =
    let log = c.args.checked.now.log in
    let start = cell_in (store_of c.args.checked.now.store) in
    let opened = c.in_ok-history.ensures in
    let was = c.in_ok-history.history in
    let now = c.run.new.history in
    let answered = replies (past was was.top) log in
    let all : length answered ≡ length log = length-replies (past was was.top) log in
    let whole : take (length answered) log ≡ log = ap (λ n. take n log) all ∙ take-length log in
    let ran : IsApplied was now log c.args.keep answered = rw (c.log.ensures.same, c.timestamps.ensures) at c.in_ok-run.ensures.applied in
    let applied : IsApplied was now (take (length answered) log) c.args.keep answered = rw whole ran in
    let from = opened.past ∙ ap (λ s. cell_in (store_of s)) c.store.ensures.same in
    let (told, history) = whole_run start was now log c.args.keep answered opened.floor opened.top from applied all in
    let few = whole_count was now log c.args.keep answered applied all in
    record {
      replies = rw (c.log.ensures.same, c.new-replies.ensures) at c.in_ok-run.ensures.answered ∙ told;
      history = history;
      count = omega (arith, few, opened.count, ap length c.store.ensures.same);
    }
