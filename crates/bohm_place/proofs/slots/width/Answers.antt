use Rattle.std.proofs.Common.{arith, ap, length}
use Rattle.bohm_place.proofs.Offsets.{few_slots}
use Rattle.bohm_place.proofs.slots.width.Goals as goal

pub overflow_add-result : goal.overflow_add-result
overflow_add-result c = omega (arith, few_slots c.args.txn.now c.requires, ap length c.writes.ensures, c.shows.ensures.shows)

pub overflow_cast-result : goal.overflow_cast-result
overflow_cast-result c = omega (arith, few_slots c.args.txn.now c.requires, ap length c.writes.ensures, c.shows.ensures.shows)

pub returns-clause-few : goal.returns-clause-few
returns-clause-few c = omega (arith, few_slots c.args.txn.now c.requires, ap length c.writes.ensures, c.shows.ensures.shows)
