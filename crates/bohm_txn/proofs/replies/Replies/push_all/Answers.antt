use Rattle.std.proofs.Common.{◌≡◌, ◌+◌, ◌++◌, ◌∷◌, [], List, take, ap, sym, ◌∙◌, append_assoc}
use Rattle.std.proofs.lemmas.List.{take_more}
use Rattle.std.proofs.lemmas.Option.{slice_get_within, get_or_from_slice_get}
use Rattle.bohm_txn.specs.declared.outcome.Reply.{Reply}
use Rattle.bohm_txn.specs.ReplyRows.{reply_shown}
use Rattle.bohm_txn.proofs.replies.Replies.push_all.Goals as goal

pub loop-index-preserved : goal.loop-index-preserved
loop-index-preserved c =
    let was = c.args.self.now in
    let more = c.args.more.now in
    let i = c.loop-index.index in
    let r = reply_shown c.get.result in
    let own : List Reply = r ∷ [] in
    let next : take (i + 1) more ≡ take i more ++ own =
    take_more more i r (slice_get_within more i r c.get.ensures)
    ∙ ap (λ (x : Reply). take i more ++ x ∷ []) (get_or_from_slice_get more i r r c.get.ensures) in
    c.in_ok-push.ensures.ok ∙ (λ j. c.loop-index.invariant j ++ c.parts-outcome.ensures j ∷ [])
    ∙ append_assoc was (take i more) own ∙ ap (λ (rs : List Reply). was ++ rs) (sym next)
