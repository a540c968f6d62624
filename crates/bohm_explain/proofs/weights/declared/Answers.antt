use Rattle.std.proofs.Common.{arith}
use Rattle.bohm_explain.specs.Weighing.{declared_by}
use Rattle.bohm_explain.proofs.Further.{sum_more}
use Rattle.bohm_explain.proofs.weights.declared.Goals as goal
use Rattle.bohm_place.proofs.ForCallers.{usable_at}

pub declared_by-keys-requires : goal.declared_by-keys-requires
declared_by-keys-requires c = usable_at _ c.requires.formed _ _ c.txn.ensures

pub loop-index-preserved : goal.loop-index-preserved
loop-index-preserved c =
    let more = sum_more c.args.txns.now c.loop-index.index c.txn.result c.txn.ensures declared_by in
    record {
      keys = omega (arith, more, c.loop-index.invariant.keys, c.declared_by-keys.ensures.keys);
      few = omega (arith, c.loop-index.invariant.few, c.declared_by-keys.ensures.few);
    }
