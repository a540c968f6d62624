use Rattle.bohm_ledger_cli.proofs.archives.FileArchives.write.Goals as goal

pub invariant_of-store-then-is_err : goal.invariant_of-store-then-is_err
invariant_of-store-then-is_err g c =
    let store = c.checkpoint.new.self in
    record { served = store.served; stored = store.stored; cookie = store.cookie; marked = store.marked; safe = store.safe }
