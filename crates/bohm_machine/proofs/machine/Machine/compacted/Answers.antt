use Rattle.bohm_machine.proofs.GoingOn.{compacted}
use Rattle.bohm_machine.proofs.machine.Machine.compacted.Goals as goal

pub returns-in-Ok : goal.returns-in-Ok
returns-in-Ok c =
    let past = rw c.deref.ensures.value at c.restore.ensures.past in
    let names = rw c.deref.ensures.value at c.restore.ensures.names in
    let count = rw c.deref.ensures.value at c.restore.ensures.count in
    compacted c.args.self.now c.top-top.result c.in-Ok.store.items c.restore.result c.top-top.ensures.top c.in-Ok.ensures.past
    c.in-Ok.ensures.entries c.restore.ensures.top c.restore.ensures.floor past names count
