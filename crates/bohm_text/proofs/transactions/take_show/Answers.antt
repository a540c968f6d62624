use Rattle.std.proofs.lemmas.Option.{IfSome_then}
use Rattle.bohm_text.proofs.WholeTxns.{show_read}
use Rattle.bohm_text.proofs.transactions.take_show.Goals as goal

pub returns : goal.returns
returns c = IfSome_then c.behind.result c.behind.ensures.some
    (λ left. show_read c.args.text.now c.in-Some.rest.now left.now c.args.draft.now c.take_sum.new.draft c.show.new.self c.requires
    c.in-Some.ensures c.in-Ok.ensures.ok)
