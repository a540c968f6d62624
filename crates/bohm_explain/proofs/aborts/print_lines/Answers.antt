use Rattle.std.proofs.Common.{◌≡◌, ℕ, ◌+◌, ◌++◌, List, Some, drop, length, ap, sym, ◌∙◌, arith, append_assoc}
use Rattle.std.specs.List.{slice_get}
use Rattle.bohm_types.specs.Txn.{Txn}
use Rattle.bohm_txn.specs.ReplyRows.{reply_shown}
use Rattle.bohm_txn.proofs.ForCallers.{drop_at}
use Rattle.bohm_explain.specs.Aborts.{aborts_from, reply_line}
use Rattle.bohm_explain.proofs.aborts.print_lines.Goals as goal

pub loop-index-preserved : goal.loop-index-preserved
loop-index-preserved c =
    let i = c.loop-index.index in
    let ts = c.args.checked.now.log in
    let rs = c.args.replies.now in
    let o = c.loop-index.opening in
    let x = c.txn-txn.result in
    let r = reply_shown c.get.result in
    let out = c.loop-index.out.items in
    let at : slice_get ts i ≡ Some x = ap (λ (list : List Txn). slice_get list i) (sym c.log-log.ensures.same) ∙ c.txn-txn.ensures in
    let line = reply_line (i + 1) o x.body r in
    let rest = aborts_from (i + 1 + 1) (o + length x.body + 4) (drop (i + 1) ts) (drop (i + 1) rs) in
    let cut : aborts_from (i + 1) o (drop i ts) (drop i rs) ≡ line ++ rest =
    λ j. aborts_from (i + 1) o (drop_at ts i x at j) (drop_at rs i r c.get.ensures j) in
    let next : o + (c.body_len.result + 4) ≡ o + length x.body + 4 = omega (arith, c.body_len.ensures) in
    record {
      low = omega (arith, c.loop-index.invariant.low);
      text = rw (c.in_ok-put_reply.ensures, next) (append_assoc out line rest ∙ ap (λ (text : List ℕ). out ++ text) (sym cut) ∙ c.loop-index.invariant.text);
    }
