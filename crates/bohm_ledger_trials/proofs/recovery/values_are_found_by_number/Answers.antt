use Rattle.bohm_ledger_trials.proofs.recovery.values_are_found_by_number.Goals as goal

pub invariant_of-ledger-in_err-digest_before : goal.invariant_of-ledger-in_err-digest_before
invariant_of-ledger-in_err-digest_before g c =
    let store = c.checkpoint.new.self.store in
    record { within = store.within; rising = store.rising; numbered = store.numbered; leads = store.leads; mirrors = store.mirrors }

pub invariant_of-ledger-2 : goal.invariant_of-ledger-2
invariant_of-ledger-2 g c =
    let store = c.checkpoint.new.self.store in
    record { within = store.within; rising = store.rising; numbered = store.numbered; leads = store.leads; mirrors = store.mirrors }
