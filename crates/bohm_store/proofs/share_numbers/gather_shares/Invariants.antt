-- The writes of the first shares are gathered.
use Rattle.std.proofs.Common.{◌≡◌, ◌*◌, map, take, length}
use Rattle.bohm_log.specs.Parts.{Begins}
use Rattle.bohm_board.specs.declared.batch.Batch.{Batch}
use Rattle.bohm_board.specs.Batches.{base_of, first_of, txns_of}
use Rattle.bohm_store.specs.Writes.{AreBelow, AreShares, all_txn_writes, named_write}
use Rattle.bohm_store.proofs.share_numbers.gather_shares.Given as goal

abbrev pub invariant-loop-share : goal.invariant-loop-share
invariant-loop-share l = record {
  longer : Begins l.initial.names l.names;
  below : AreBelow (length l.names) l.out.items;
  listed : (b : Batch) (s : AreShares l.initial.names b l.shares) → map (named_write l.names) l.out.items
      ≡ all_txn_writes (first_of b) (base_of b) (take (l.share-index * s.size) (txns_of b));
}
