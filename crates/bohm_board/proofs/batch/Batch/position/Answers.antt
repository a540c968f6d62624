use Rattle.std.proofs.Common.{arith}
use Rattle.bohm_board.proofs.SlotNumbers.{position_inside}
use Rattle.bohm_board.proofs.SlotPlaces.{outcomes_long}
use Rattle.bohm_board.proofs.batch.Batch.position.Goals as goal

pub returns-clause-inside : goal.returns-clause-inside
returns-clause-inside c =
    let is = c.requires in
    omega (arith, position_inside c.args.self.now c.args.t c.requires, outcomes_long c.args.self.now, c.first.ensures)
