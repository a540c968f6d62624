use Rattle.std.proofs.Common.{slice_index, arith}
use Rattle.std.proofs.lemmas.List.{get_or_default}
use Rattle.bohm_explain.proofs.Greatest.{at_most_greatest, greatest_at_most}
use Rattle.bohm_explain.proofs.walking.heaviest_end.Goals as goal

pub returns-clause-greatest : goal.returns-clause-greatest
returns-clause-greatest c =
    let ds = c.args.heaviest.now in
    let p = c.loop-position.end in
    let least = at_most_greatest ds p 0 c.loop-position.invariant.inside in
    let most = greatest_at_most (slice_index ds p) ds (λ k d inside.
    let at = get_or_default ds k d 0 inside in
    let low = c.loop-position.invariant.none_above k (omega (arith, inside, c.loop-position-test.false)) in
    omega (arith, at, low)) in
    omega (arith, least, most)
