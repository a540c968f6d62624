use Rattle.bohm_txn.proofs.Lists.{push_more}
use Rattle.bohm_txn.proofs.key_lists.add_keys.Goals as goal

pub loop-place-preserved : goal.loop-place-preserved
loop-place-preserved c = push_more c.args.keys.now c.loop-place.place c.key.result.now _ _ _ c.key.ensures c.in_ok-push.ensures.items c.loop-place.invariant
