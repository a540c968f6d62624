use Rattle.bohm_txn.specs.Stores.{cell_in, store_of}
use Rattle.bohm_machine.proofs.GoingOn.{restored}
use Rattle.bohm_machine.proofs.machine.Machine.restore.Goals as goal

pub returns-clause-run : goal.returns-clause-run
returns-clause-run c =
    let opened = c.in_ok-history.ensures in
    restored c.in_ok-history.history (cell_in (store_of c.args.store.now)) c.args.top opened.top opened.floor opened.past
