use Rattle.bohm_txn.proofs.ForCallers.{store_of-insert, store_of-remove}
use Rattle.bohm_serial.proofs.store.Store.put.Goals as goal

pub returns-in-Absent-clause-ok : goal.returns-in-Absent-clause-ok
returns-in-Absent-clause-ok c = rw (c.in-Absent.is, ← c.self.view_is)
    (store_of-remove c.self.inside.values.entries c.remove.new.self.entries c.args.key.now c.remove.ensures.updates.0)

pub returns-in_ok-insert-in-Present-clause-ok : goal.returns-in_ok-insert-in-Present-clause-ok
returns-in_ok-insert-in-Present-clause-ok c = rw (c.in-Present.is, ← c.self.view_is)
    (store_of-insert c.self.inside.values.entries c.insert.new.self.entries c.args.key.now c.in-Present.value c.in_ok-insert-in-Present.ensures.updates.0)
