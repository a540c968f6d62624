use Rattle.std.proofs.Common.{◌∙◌}
use Rattle.bohm_exec.proofs.Strides.{takes, passes}
use Rattle.bohm_exec.proofs.shares.share_of.Goals as goal
use Rattle.bohm_exec.proofs.shares.share_of.Goals.{then-distance-workers+in_ok-push, else-distance-workers}

pub loop-distance-preserved : goal.loop-distance-preserved
loop-distance-preserved c =
    elim c.if-distance-workers.branch [
      | then-distance-workers+in_ok-push w ↦ rw w.share-is
          (w.in_ok-push.ensures.items ∙ takes c.args.first c.args.worker c.args.workers c.loop-distance.distance c.loop-distance.share.items
          w.if-distance-workers.true c.loop-distance.invariant)
      | else-distance-workers w ↦ rw w.share-is (passes c.args.first c.args.worker c.args.workers c.loop-distance.distance c.loop-distance.share.items
          w.if-distance-workers.false c.loop-distance.invariant)
    ]
