use Rattle.bohm_entries.proofs.ForCallers.{entry_not_refused}
use Rattle.bohm_replay.proofs.entry_machine.EntryMachine.admit.Goals as goal

pub returns-clause-no_entry : goal.returns-clause-no_entry
returns-clause-no_entry g c r is =
    entry_not_refused (record { edition = c.args.self.now.edition; procedures = c.args.self.now.definitions }) c.args.entry.now r (c.admit.ensures.refused r is)
