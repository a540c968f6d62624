use Rattle.bohm_txn.proofs.Evaluating.{declared_cell, other_cell}
use Rattle.bohm_txn.proofs.environment.Environment.cell.Goals as goal

pub returns-then-declared : goal.returns-then-declared
returns-then-declared c =
    let view = c.args.self.now in
    declared_cell view.txn.now.reads view.txn.now.others view.cells.now c.args.declared c.args.place c.index-self-place.result view.rising view.paired
    c.requires c.if-declared.true

pub returns-else-declared : goal.returns-else-declared
returns-else-declared c =
    let view = c.args.self.now in
    other_cell view.txn.now.reads view.txn.now.others view.cells.now c.args.declared c.args.place view.rising view.few c.requires c.if-declared.false
