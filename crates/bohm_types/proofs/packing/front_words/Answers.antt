use Rattle.std.proofs.Common.{take, arith}
use Rattle.std.proofs.lemmas.List.{length-take}
use Rattle.bohm_types.proofs.FrontWords.{two_read, three_read, four_read}
use Rattle.bohm_types.proofs.Words.{one_word}
use Rattle.bohm_types.proofs.packing.front_words.Goals as goal

pub returns-then-size-le8 : goal.returns-then-size-le8
returns-then-size-le8 c =
    one_word (take c.args.size c.args.text.now) c.next_word-first.result
    (omega (arith, c.if-size-le8.true, length-take c.args.size c.args.text.now)) c.next_word-first.ensures

pub returns-then-size-le16 : goal.returns-then-size-le16
returns-then-size-le16 c =
    two_read c.args.text.now c.args.size c.next_word-first.result c.next_word-second.result (omega (arith, c.if-size-le8.false)) c.if-size-le16.true
    c.next_word-first.ensures c.next_word-second.ensures

pub returns-then-size-le24 : goal.returns-then-size-le24
returns-then-size-le24 c =
    three_read c.args.text.now c.args.size c.next_word-first.result c.next_word-second.result c.next_word-third.result
    (omega (arith, c.if-size-le16.false)) c.if-size-le24.true c.next_word-first.ensures c.next_word-second.ensures c.next_word-third.ensures

pub returns : goal.returns
returns c =
    four_read c.args.text.now c.args.size c.next_word-first.result c.next_word-second.result c.next_word-third.result c.next_word.result
    (omega (arith, c.if-size-le24.false)) c.next_word-first.ensures c.next_word-second.ensures c.next_word-third.ensures c.next_word.ensures
