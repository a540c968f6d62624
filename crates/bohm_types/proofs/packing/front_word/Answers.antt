use Rattle.std.proofs.Common.{◌<◌, ◌-◌, ◌*◌, ◌/◌, ◌%◌, ◌^◌, ap, ◌∙◌, arith}
use Rattle.bohm_types.proofs.Fronts.{of_text}
use Rattle.bohm_types.proofs.packing.front_word.Goals as goal

pub returns : goal.returns
returns c =
    let some : 0 < c.args.size = omega (arith, c.if-size-eq0.false) in
    ap (λ w. w / 2 ^ (64 - 8 * c.args.size) * 2 ^ (64 - 8 * c.args.size) % 2 ^ 64) c.first_word.ensures
    ∙ of_text c.args.size c.args.text.now (λ i. omega (arith, c.type_inv.text i)) c.requires.there some c.requires.short
