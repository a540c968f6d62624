use Rattle.std.proofs.Common.{append_assoc, rules}
use Rattle.bohm_txn.proofs.ForCallers.{drop_at}
use Rattle.bohm_explain.proofs.weights.weights.Goals as goal
use Rattle.bohm_place.proofs.ForCallers.{usable_at}

pub weight-requires : goal.weight-requires
weight-requires c = usable_at _ c.requires.formed _ _ c.txn.ensures

pub loop-index-preserved : goal.loop-index-preserved
loop-index-preserved c = record {
  paired = search rules;
  weights = rw (c.in_ok-push.ensures.items, append_assoc, c.weight.ensures.weight)
      (rw (drop_at c.args.txns.now c.loop-index.index c.txn.result c.txn.ensures) at c.loop-index.invariant.weights);
  light = search rules;
}
