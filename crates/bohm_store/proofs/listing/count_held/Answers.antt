use Rattle.std.proofs.Common.{arith}
use Rattle.bohm_store.proofs.Counted.{filled_more}
use Rattle.bohm_store.proofs.listing.count_held.Goals as goal

pub loop-i-preserved : goal.loop-i-preserved
loop-i-preserved c =
    let more = filled_more c.args.newest.now c.loop-i.i c.index-newest-i.result c.loop-i-test.true c.index-newest-i.is in
    record {
      filled = omega (arith, more, c.loop-i.invariant.filled, c.count_of-count.ensures.count);
      few = omega (arith, c.loop-i.invariant.few, c.count_of-count.ensures.one);
    }
