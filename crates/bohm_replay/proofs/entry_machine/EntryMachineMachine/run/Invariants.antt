use Rattle.std.proofs.Common.{◌≡◌, ◌+◌, ◌≤◌, length}
use Rattle.bohm_entries.specs.Batches.{count, entries_of}
use Rattle.bohm_replay.specs.Entries.{IsBatch, room_after, state_of}
use Rattle.bohm_replay.proofs.Stepping.{IsUnderWay}
use Rattle.bohm_replay.proofs.entry_machine.EntryMachineMachine.run.Given as goal

abbrev pub invariant-entries : goal.invariant-entries
invariant-entries g l =
    let look = g.P.Past.look in
    let was = l.fn.self in
    record {
      ran : IsUnderWay (state_of was.edition was.definitions (look was.past) was.top)
          (state_of l.self.edition l.self.definitions (look l.self.past) l.self.top)
          (entries_of l.batch) (entries_of l.rest) l.replies.items l.answers.items;
      saved : g.P.Past.saved l.self.past ≡ g.P.Past.saved was.past;
      reads : IsBatch (record { edition = was.edition; procedures = was.definitions }) l.batch
          → IsBatch (record { edition = l.self.edition; procedures = l.self.definitions }) l.rest;
      room : room_after (g.P.Past.since was.past) (g.P.Past.room was.past) + count (entries_of l.rest)
          ≤ g.P.Past.room l.self.past + count (entries_of l.batch);
    }

abbrev pub decreases-entries : goal.decreases-entries
decreases-entries g l = length l.rest
