use Rattle.std.proofs.Common.{◌≡◌, [], ap, Err}
use Rattle.bohm_ledger.specs.declared.error.MachineFault.TheVariants as machine_is
use Rattle.bohm_entries.specs.declared.first_line.Kind.TheVariants as kinds
use Rattle.bohm_entries.proofs.ForCallers.{not_refused}
use Rattle.bohm_replay.proofs.entry_machine.EntryMachine.transaction.Goals as goal

pub returns-in-Err-clause-unreadable : goal.returns-in-Err-clause-unreadable
returns-in-Err-clause-unreadable g c is transaction =
    let fault : c.fault_of.result ≡ machine_is.Unreadable = cc in
    let refused = c.fault_of.ensures.refused fault in
    not_refused (record { edition = c.args.self.now.edition; procedures = c.args.self.now.definitions }) kinds.Transaction [] c.args.lines.now refused.0
    transaction (c.in-Err.ensures.refused refused.0 (ap Err refused.1))
