use Rattle.std.proofs.Common.{arith}
use Rattle.std.proofs.lemmas.Grind.{common_steps}
use Rattle.bohm_replay.proofs.Admitted as lemma
use Rattle.bohm_replay.proofs.entry_machine.EntryMachineMachine.pass.Goals as goal

pub entries-preserved : goal.entries-preserved
entries-preserved g c = record {
  defs = grind (arith, common_steps);
  past = grind (arith, common_steps);
  top = grind (arith, common_steps);
  reads = λ batch.
      lemma.batch_alike _ _ _ _ c.in-Some.others.now c.pass_entry.ensures.edition c.in_ok-pass_entry.ensures.definitions
      (lemma.other_entries (record { edition = c.entries.self.edition; procedures = c.entries.self.definitions }) c.entries.rest.now c.in-Some.entry.now
      c.in-Some.others.now c.in-Some.ensures.bytes c.in-Some.ensures.whole c.in-Some.ensures.entries (c.entries.invariant.reads batch));
}
