use Rattle.std.proofs.Common.{◌∙◌, arith}
use Rattle.bohm_board.proofs.WantedSources.{few_slots, slots_planned}
use Rattle.bohm_board.proofs.batch.Batch.slots.Goals as goal

pub returns-clause-slots : goal.returns-clause-slots
returns-clause-slots c = c.slots.ensures ∙ slots_planned c.args.self.now

pub returns-clause-few : goal.returns-clause-few
returns-clause-few c = omega (arith, c.slots.ensures, slots_planned c.args.self.now, few_slots c.args.self.now)
