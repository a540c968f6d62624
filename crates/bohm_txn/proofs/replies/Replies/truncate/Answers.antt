use Rattle.std.proofs.Common.{take, ap, ◌∙◌, List}
use Rattle.bohm_txn.specs.declared.outcome.Reply.{Reply}
use Rattle.bohm_txn.proofs.ReplyRows.{replies_taken}
use Rattle.bohm_txn.proofs.replies.Replies.truncate.Goals as goal

pub returns : goal.returns
returns c = replies_taken c.self.inside.values.items c.self.inside.rows.items c.truncate.new.self.items c.args.len c.truncate.ensures.items
    ∙ ap (λ (rs : List Reply). take c.args.len rs) c.self.view_is
