use Rattle.bohm_ledger_cli.proofs.open_asked.Goals as goal

pub invariant_of-desk : goal.invariant_of-desk
invariant_of-desk c =
    let store = c.in_ok-desk.desk.ledger.store in
    record { served = store.served; stored = store.stored; cookie = store.cookie; marked = store.marked; safe = store.safe }

pub invariant_of-desk-in_err-of-in_default : goal.invariant_of-desk-in_err-of-in_default
invariant_of-desk-in_err-of-in_default c =
    let store = c.in_ok-desk.desk.ledger.store in
    record { served = store.served; stored = store.stored; cookie = store.cookie; marked = store.marked; safe = store.safe }
