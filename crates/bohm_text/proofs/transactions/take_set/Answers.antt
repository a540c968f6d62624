use Rattle.std.proofs.lemmas.Option.{IfSome_then}
use Rattle.bohm_text.specs.Targets.{name_in}
use Rattle.bohm_text.proofs.WholeTxns.{set_read}
use Rattle.bohm_text.proofs.transactions.take_set.Goals as goal

pub returns : goal.returns
returns c = IfSome_then c.take_assigned.result c.take_assigned.ensures
    (λ rest. set_read c.args.text.now c.word_of-word.result (name_in c.in-Some.target) c.in-Some-behind.sum.now rest.now c.word_end-end.result
    c.args.draft.now c.take_assigned.new.draft c.word_of-word.ensures c.in-Some.ensures.name c.in-Some-behind.ensures.some)
