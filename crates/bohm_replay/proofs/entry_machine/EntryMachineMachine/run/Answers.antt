use Rattle.std.proofs.Common.{ap, sym, subst, arith}
use Rattle.std.proofs.lemmas.Grind.{common_steps}
use Rattle.bohm_entries.specs.Batches.{Defined, count}
use Rattle.bohm_ledger.specs.Rules.{State}
use Rattle.bohm_replay.specs.Entries.{IsBatch}
use Rattle.bohm_replay.proofs.Admitted as lemma
use Rattle.bohm_replay.proofs.entry_machine.EntryMachineMachine.run.Goals as goal

pub entries-preserved : goal.entries-preserved
entries-preserved g c = record {
  ran = grind (arith, common_steps);
  saved = grind (arith, common_steps);
  reads = λ batch.
      subst (λ (d : Defined). IsBatch d c.in-Some.others.now) (sym (ap (λ (s : State Defined). s.defs) c.in_ok-reply.ensures.ran.went))
      (lemma.other_entries (record { edition = c.entries.self.edition; procedures = c.entries.self.definitions }) c.entries.rest.now c.in-Some.entry.now
      c.in-Some.others.now c.in-Some.ensures.bytes c.in-Some.ensures.whole c.in-Some.ensures.entries (c.entries.invariant.reads batch));
  room = omega (arith, c.entries.invariant.room, c.in_ok-reply.ensures.room, ap count c.in-Some.ensures.entries);
}
