use Rattle.std.proofs.Common.{arith}
use Rattle.bohm_board.proofs.SlotPlaces.{outcomes_long}
use Rattle.bohm_board.proofs.board.Board.value_at.Goals as goal

pub returns-clause-at : goal.returns-clause-at
returns-clause-at c = omega (arith, c.len.ensures, c.slots.ensures.slots, outcomes_long c.args.self.now.batch)

pub returns-clause-inside : goal.returns-clause-inside
returns-clause-inside c = omega (arith, c.len.ensures, c.slots.ensures.slots, outcomes_long c.args.self.now.batch, c.args.self.now.sized, c.requires)
