use Rattle.std.proofs.Common.{◌≡◌, ap, Err}
use Rattle.bohm_ledger.specs.declared.error.MachineFault.TheVariants as machine_is
use Rattle.bohm_replay.proofs.Admitted as lemma
use Rattle.bohm_replay.proofs.Stepping as steps
use Rattle.bohm_replay.proofs.entry_machine.EntryMachine.call_log.Goals as goal

pub returns-clause-log : goal.returns-clause-log
returns-clause-log g c = record {
  procedure = c.in-Ok.call.procedure.now;
  keys = c.in-Ok.call.arguments.keys.items;
  values = c.in-Ok.call.arguments.values.items;
  call = c.in-Ok.ensures.found;
  only = steps.only_call c.push.new.self c.in-Ok-calls.calls c.edition.result c.in-Ok.call.procedure.now
      c.as_slice-keys.result.now c.in-Ok.call.arguments.keys.items c.as_slice-values.result.now c.in-Ok.call.arguments.values.items
      c.in-Ok-push.ensures.ok c.in-Ok-calls.ensures c.as_slice-keys.ensures.value c.as_slice-values.ensures.value;
}

pub returns-in-Err-clause-unreadable : goal.returns-in-Err-clause-unreadable
returns-in-Err-clause-unreadable g c is calls =
    let fault : c.fault_of.result ≡ machine_is.Unreadable = cc in
    let refused = c.fault_of.ensures.refused fault in
    lemma.call_refused c.args.self.now.edition c.args.self.now.definitions c.args.words refused.0 calls (c.in-Err.ensures.refused refused.0 (ap Err refused.1))
