use Rattle.std.proofs.Common.{◌≡◌, ℕ, ◌+◌, List, [], ◌∷◌, ◌++◌, drop, length, length-append, ap, sym, ◌∙◌, append_assoc}
use Rattle.std.specs.List.{flat_map}
use Rattle.bohm_txn.specs.declared.outcome.Reply.{Reply}
use Rattle.bohm_txn.specs.ReplyRows.{reply_shown}
use Rattle.bohm_txn.proofs.ForCallers.{drop_at}
use Rattle.bohm_c.specs.Rows.{row_of, rows_from, shows_of}
use Rattle.bohm_c.proofs.rows.rows_of.Goals as goal

pub loop-index-preserved : goal.loop-index-preserved
loop-index-preserved c =
    let i = c.loop-index.index in
    let rs = c.args.replies.now in
    let x = reply_shown c.get.result in
    let rows = c.loop-index.rows.replies.items in
    let values = c.loop-index.rows.values.items in
    let n : ℕ = length values in
    let there : drop i rs ≡ x ∷ drop (i + 1) rs = drop_at rs i x c.get.ensures in
    let row = row_of n x in
    let longer : length (values ++ shows_of x) ≡ n + length (shows_of x) = length-append values (shows_of x) in
    let left : (rows ++ row ∷ []) ++ rows_from (n + length (shows_of x)) (drop (i + 1) rs) ≡ rows_from 0 rs =
    append_assoc rows (row ∷ []) (rows_from (n + length (shows_of x)) (drop (i + 1) rs))
    ∙ ap (λ (ds : List Reply). rows ++ rows_from n ds) (sym there) ∙ c.loop-index.invariant.0 in
    let right : (values ++ shows_of x) ++ flat_map shows_of (drop (i + 1) rs) ≡ flat_map shows_of rs =
    append_assoc values (shows_of x) (flat_map shows_of (drop (i + 1) rs))
    ∙ ap (λ (ds : List Reply). values ++ flat_map shows_of ds) (sym there) ∙ c.loop-index.invariant.1 in
    (rw (c.in_ok-put_reply.ensures.replies, c.in_ok-put_reply.ensures.values, longer) left, rw c.in_ok-put_reply.ensures.values right)
