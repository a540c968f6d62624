use Rattle.std.proofs.Common.{◌∙◌, ap, sym, arith}
use Rattle.std.specs.Int.{w64, from_be_bytes}
use Rattle.bohm_types.proofs.FrontWords.{padded_take}
use Rattle.bohm_types.proofs.packing.next_word.Goals as goal

pub returns : goal.returns
returns c =
    c.first_word.ensures ∙ ap (from_be_bytes w64) (sym (padded_take 8 c.args.size c.args.text.now (omega (arith, c.if-size-lt8.false))))
