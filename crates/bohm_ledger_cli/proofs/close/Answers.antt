use Rattle.bohm_ledger_cli.proofs.close.Goals as goal

pub invariant_of-store : goal.invariant_of-store
invariant_of-store c =
    let store = c.checkpoint.new.self in
    record { served = store.served; stored = store.stored; cookie = store.cookie; marked = store.marked; safe = store.safe }

pub invariant_of-store-2 : goal.invariant_of-store-2
invariant_of-store-2 c =
    let store = c.checkpoint.new.self in
    record { served = store.served; stored = store.stored; cookie = store.cookie; marked = store.marked; safe = store.safe }
