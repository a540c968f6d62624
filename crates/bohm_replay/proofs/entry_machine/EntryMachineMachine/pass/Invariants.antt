use Rattle.std.proofs.Common.{◌≡◌, length}
use Rattle.bohm_entries.specs.Batches.{defined_by, entries_of}
use Rattle.bohm_replay.specs.Entries.{IsBatch}
use Rattle.bohm_replay.proofs.entry_machine.EntryMachineMachine.pass.Given as goal

abbrev pub invariant-entries : goal.invariant-entries
invariant-entries g l =
    let was = l.fn.self in
    record {
      defs : defined_by (record { edition = l.self.edition; procedures = l.self.definitions }) (entries_of l.rest)
          ≡ defined_by (record { edition = was.edition; procedures = was.definitions }) (entries_of l.batch);
      past : l.self.past ≡ was.past;
      top : l.self.top ≡ was.top;
      reads : IsBatch (record { edition = was.edition; procedures = was.definitions }) l.batch
          → IsBatch (record { edition = l.self.edition; procedures = l.self.definitions }) l.rest;
    }

abbrev pub decreases-entries : goal.decreases-entries
decreases-entries g l = length l.rest
