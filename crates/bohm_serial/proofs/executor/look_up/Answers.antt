use Rattle.std.proofs.Common.{append_assoc}
use Rattle.bohm_txn.proofs.ForCallers.{drop_at}
use Rattle.bohm_serial.proofs.executor.look_up.Goals as goal

pub loop-place-preserved : goal.loop-place-preserved
loop-place-preserved c = rw (c.in_ok-push.ensures.items, append_assoc, c.get.ensures)
    (rw (drop_at c.args.keys.now c.loop-place.place c.key.result.now c.key.ensures) at c.loop-place.invariant)
