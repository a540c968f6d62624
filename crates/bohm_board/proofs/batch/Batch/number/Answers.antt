use Rattle.std.proofs.Common.{arith}
use Rattle.bohm_board.proofs.SlotNumbers.{number_inside}
use Rattle.bohm_board.proofs.WantedSources.{few_slots, slot_planned}
use Rattle.bohm_board.proofs.batch.Batch.number.Goals as goal

pub overflow_add-result : goal.overflow_add-result
overflow_add-result c =
    let b = c.args.self.now in
    omega (arith, slot_planned b c.args.slot.txn c.slot.result c.requires.txn c.slot.ensures, number_inside b c.args.slot c.requires, few_slots b)

pub returns-clause-number : goal.returns-clause-number
returns-clause-number c =
    let b = c.args.self.now in
    omega (arith, slot_planned b c.args.slot.txn c.slot.result c.requires.txn c.slot.ensures)

pub returns-clause-inside : goal.returns-clause-inside
returns-clause-inside c =
    let b = c.args.self.now in
    omega (arith, slot_planned b c.args.slot.txn c.slot.result c.requires.txn c.slot.ensures, number_inside b c.args.slot c.requires)
