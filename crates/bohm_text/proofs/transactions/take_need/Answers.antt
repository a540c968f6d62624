use Rattle.std.proofs.lemmas.Option.{IfSome_then}
use Rattle.bohm_text.proofs.WholeTxns.{need_read}
use Rattle.bohm_text.proofs.transactions.take_need.Goals as goal

pub returns : goal.returns
returns c = IfSome_then c.behind.result c.behind.ensures.some
    (λ left. need_read c.in-Some.cmp c.args.text.now c.in-Some.rest.now left.now c.args.draft.now c.take_cond.new.draft c.need.new.self c.requires
    c.in-Some.ensures c.in-Ok.ensures.ok)
