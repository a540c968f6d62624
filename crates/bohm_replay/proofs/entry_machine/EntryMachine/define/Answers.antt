use Rattle.std.proofs.Common.{◌≡◌, ap, Err}
use Rattle.bohm_ledger.specs.declared.error.MachineFault.TheVariants as machine_is
use Rattle.bohm_replay.proofs.Admitted as lemma
use Rattle.bohm_replay.proofs.entry_machine.EntryMachine.define.Goals as goal

pub returns-in-Err-clause-unreadable : goal.returns-in-Err-clause-unreadable
returns-in-Err-clause-unreadable g c is some definition =
    let fault : c.fault_of.result ≡ machine_is.Unreadable = cc in
    let refused = c.fault_of.ensures.refused fault in
    lemma.define_refused c.args.self.now.edition c.args.self.now.definitions c.args.words c.args.lines.now refused.0 some definition
    (c.in-Err.ensures.refused refused.0 (ap Err refused.1))
