use Rattle.std.proofs.Common.{arith, ap, length}
use Rattle.bohm_board.proofs.SlotPlaces.{outcomes_long}
use Rattle.bohm_board.proofs.closed.Closed.unfinished.Goals as goal

pub overflow_cast-result : goal.overflow_cast-result
overflow_cast-result c =
    let closed = c.args.self.now in
    let bound = rw c.filter.ensures.source at c.count.ensures.bound in
    omega (arith, bound, c.iter.ensures.len, ap length c.deref.ensures.value, closed.sized.statuses, outcomes_long closed.batch, closed.batch.batched.few)
