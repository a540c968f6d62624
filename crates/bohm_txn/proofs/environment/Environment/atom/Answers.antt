use Rattle.std.proofs.Common.{◌∙◌}
use Rattle.bohm_txn.proofs.Evaluating.{read_number, unread_number}
use Rattle.bohm_txn.proofs.environment.Environment.atom.Goals as goal

pub returns-in-Read-clause-value : goal.returns-in-Read-clause-value
returns-in-Read-clause-value c =
    let view = c.args.self.now in
    c.number_in.ensures.value ∙ read_number view.txn.now view.cells.now view.locals.now c.args.term.kind c.args.term.place c.index-self-place.result
    view.rising view.paired c.requires c.in-Read.is

pub returns-in-Unread-clause-value : goal.returns-in-Unread-clause-value
returns-in-Unread-clause-value c =
    let view = c.args.self.now in
    unread_number view.txn.now view.cells.now view.locals.now c.args.term.kind c.args.term.place view.rising view.few c.requires c.in-Unread.is
