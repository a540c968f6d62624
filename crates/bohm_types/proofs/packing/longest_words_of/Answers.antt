use Rattle.bohm_types.proofs.Words.{four_words}
use Rattle.bohm_types.proofs.packing.longest_words_of.Goals as goal

pub returns : goal.returns
returns c =
    four_words c.args.name.now c.behind-second.result.now c.behind-third.result.now c.behind-fourth.result.now
    c.further_word.result c.further_word-2.result c.further_word-3.result c.further_word-4.result
    c.behind-second.ensures c.behind-third.ensures c.behind-fourth.ensures c.further_word.ensures c.further_word-2.ensures c.further_word-3.ensures
    c.further_word-4.ensures
