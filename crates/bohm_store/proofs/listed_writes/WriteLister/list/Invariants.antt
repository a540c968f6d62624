-- The writes of the first transactions of the part are listed.
use Rattle.std.proofs.Common.{◌≡◌, ◌+◌, take, drop, map, length}
use Rattle.bohm_txn.specs.Serial.{state}
use Rattle.bohm_board.specs.Batches.{base_of, first_of, txns_of}
use Rattle.bohm_exec.specs.Answers.{batch_of_finished}
use Rattle.bohm_store.specs.Writes.{AreBelow, all_txn_writes, named_write, names_with}
use Rattle.bohm_store.proofs.listed_writes.WriteLister.list.Given as goal

abbrev pub invariant-loop-index : goal.invariant-loop-index
invariant-loop-index l = record {
  below : AreBelow (length (names_with l.self.names.now l.listed.fresh.items)) l.listed.writes.items;
  listed : let b = batch_of_finished l.finished in
      map (named_write (names_with l.self.names.now l.listed.fresh.items)) l.listed.writes.items
      ≡ all_txn_writes (first_of b + l.from) (state (base_of b) (txns_of b) l.from) (take l.index (drop l.from (txns_of b)));
}
