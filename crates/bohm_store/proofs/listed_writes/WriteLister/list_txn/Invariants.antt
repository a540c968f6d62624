-- The writes of the first keys are listed.
use Rattle.std.proofs.Common.{◌≡◌, ◌++◌, take, map, length}
use Rattle.bohm_log.specs.Parts.{Begins}
use Rattle.bohm_exec.specs.Answers.{batch_of_finished}
use Rattle.bohm_exec.specs.Moments.{state_after}
use Rattle.bohm_store.specs.Writes.{AreBelow, named_write, names_with, txn_writes}
use Rattle.bohm_store.proofs.listed_writes.WriteLister.list_txn.Given as goal

abbrev pub invariant-loop-i : goal.invariant-loop-i
invariant-loop-i l = record {
  longer : Begins (names_with l.self.names.now l.initial.listed.fresh.items) (names_with l.self.names.now l.listed.fresh.items);
  below : AreBelow (length (names_with l.self.names.now l.listed.fresh.items)) l.listed.writes.items;
  listed : map (named_write (names_with l.self.names.now l.listed.fresh.items)) l.listed.writes.items
      ≡ map (named_write (names_with l.self.names.now l.initial.listed.fresh.items)) l.initial.listed.writes.items
      ++ txn_writes l.t (state_after (batch_of_finished l.finished) l.t) (take l.i l.keys);
}
