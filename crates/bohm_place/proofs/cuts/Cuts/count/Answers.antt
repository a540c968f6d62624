use Rattle.std.proofs.Common.{arith}
use Rattle.bohm_place.proofs.Sizes.{few_batches}
use Rattle.bohm_place.proofs.cuts.Cuts.count.Goals as goal

pub overflow_cast-result : goal.overflow_cast-result
overflow_cast-result c = let few = few_batches c.self.inside.sizes.items c.self.invariant.0 in omega (arith, few)
