use Rattle.bohm_ledger_cli.proofs.print_from.Goals as goal

pub invariant_of-desk : goal.invariant_of-desk
invariant_of-desk c =
    let store = c.in_ok-desk.desk.ledger.store in
    record { served = store.served; stored = store.stored; cookie = store.cookie; marked = store.marked; safe = store.safe }

pub invariant_of-desk-2 : goal.invariant_of-desk-2
invariant_of-desk-2 c =
    let store = c.print_log.new.desk.ledger.store in
    record { served = store.served; stored = store.stored; cookie = store.cookie; marked = store.marked; safe = store.safe }
