use Rattle.std.proofs.Common.{sym, ◌∙◌}
use Rattle.std.proofs.lemmas.Option.{IfSome_then}
use Rattle.bohm_text.proofs.WholeTxns.{bind_read}
use Rattle.bohm_text.proofs.transactions.take_let.Goals as goal

pub returns : goal.returns
returns c = IfSome_then c.behind-2.result c.behind-2.ensures.some
    (λ left. bind_read c.args.text.now c.word_of-word.result c.in-Some.name c.in-Some-behind.sum.now c.in-Some-take_sum.rest.now left.now
    c.word_end-end.result c.args.draft.now c.take_sum.new.draft c.bind.new.self c.requires c.word_of-word.ensures
    (sym c.of_word.ensures ∙ c.in-Some.is) c.in-Some-behind.ensures.some c.in-Some-take_sum.ensures c.in-Ok.ensures.ok)
