use Rattle.std.proofs.Common.{◌≡◌, ◌∙◌, ◌++◌, List, ap, arith}
use Rattle.bohm_txn.specs.declared.outcome.Reply.{Reply}
use Rattle.bohm_txn.specs.Serial.{replies}
use Rattle.bohm_txn.specs.Stores.{cell_in, store_of}
use Rattle.bohm_store.specs.Versions.{past}
use Rattle.bohm_c.proofs.LeftStore.{left_store}
use Rattle.bohm_c.proofs.answer.executed.Goals as goal

pub returns-in-Ok-clause-replies : goal.returns-in-Ok-clause-replies
returns-in-Ok-clause-replies c =
    let h = c.in_ok-history.history in
    let opened = c.in_ok-history.ensures in
    let start : past h h.top ≡ cell_in (store_of c.args.checked.now.store) =
    ap (past h) opened.top ∙ opened.past ∙ ap (λ es. cell_in (store_of es)) c.store.ensures.same in
    c.in_ok-run.ensures.answered ∙ ap (λ (rs : List Reply). rs ++ replies (past h h.top) c.log-log.result) c.new-replies.ensures
    ∙ (λ i. replies (start i) (c.log-log.ensures.same i))

pub returns-in-Ok-clause-store : goal.returns-in-Ok-clause-store
returns-in-Ok-clause-store c =
    let log = c.args.checked.now.log in
    let s = store_of c.args.checked.now.store in
    let h = c.in_ok-history.history in
    let now = c.run.new.history in
    let opened = c.in_ok-history.ensures in
    let applied = rw c.log-log.ensures.same at c.in_ok-run.ensures.applied in
    let found = rw c.in-Ok.is at c.store_at.ensures.past in
    let own = rw c.in-Ok.is at c.store_at.ensures.entries in
    left_store s h now log 0 (replies (past h h.top) log) c.in-Ok.store.items opened.top
    (opened.past ∙ ap (λ es. cell_in (store_of es)) c.store.ensures.same) (omega (arith, c.top.ensures.ordered, c.top.ensures.top)) applied
    (found ∙ ap (past now) c.top.ensures.top) own
