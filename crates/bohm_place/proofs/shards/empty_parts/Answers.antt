use Rattle.std.proofs.Common.{◌∷◌, [], length-append, arith}
use Rattle.bohm_place.proofs.Placed.{AreEmpty-push}
use Rattle.bohm_place.proofs.shards.empty_parts.Goals as goal

pub loop-preserved : goal.loop-preserved
loop-preserved c =
    let old = c.loop.parts.items in
    rw c.in_ok-push.ensures.items (
      omega (arith, length-append old (c.with_seed.result ∷ []), c.loop.invariant.0),
      AreEmpty-push old c.with_seed.result c.loop.invariant.1 c.with_seed.ensures,
    )
