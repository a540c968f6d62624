use Rattle.std.proofs.Common.{[], ◌∷◌, ◌++◌, ap, ◌∙◌, List}
use Rattle.std.proofs.lemmas.Result.{on_ok_weaker}
use Rattle.bohm_txn.specs.declared.outcome.Reply.{Reply}
use Rattle.bohm_txn.specs.declared.outcome.Reply.TheVariants as replies_are
use Rattle.bohm_txn.proofs.ReplyRows.{commit_pushed}
use Rattle.bohm_txn.proofs.replies.Replies.push_commit.Goals as goal

pub returns-clause-ok : goal.returns-clause-ok
returns-clause-ok c =
    let was = c.self.inside in
    on_ok_weaker c.add.result
    (λ came. commit_pushed was.rows.items was.values.items c.args.shows.now c.add.new.rows.items c.add.new.values.items came c.self.invariant
    ∙ ap (λ (rs : List Reply). rs ++ replies_are.Commit c.args.shows.now ∷ []) c.self.view_is) c.add.ensures.ok
