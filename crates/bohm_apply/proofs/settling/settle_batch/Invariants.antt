-- The replies of the first ranges were appended, and their writes are listed.
use Rattle.std.proofs.Common.{◌≡◌, ◌*◌, ◌<◌, ◌++◌, ℕ, length, take, get_or}
use Rattle.std.specs.Map.{keys_of}
use Rattle.std.specs.Vec.Iter.{into_iter_items, into_iter_len}
use Rattle.bohm_board.specs.Batches.{first_of}
use Rattle.bohm_exec.specs.Answers.{batch_of_finished}
use Rattle.bohm_store.specs.declared.listed_writes.ListedWrites.{ListedWrites}
use Rattle.bohm_store.specs.Writes.{AreListedFrom}
use Rattle.bohm_apply.specs.Replies.{replies_of}
use Rattle.bohm_apply.proofs.settling.settle_batch.Given as goal

abbrev pub invariant-loop-share : goal.invariant-loop-share
invariant-loop-share g l = record {
  items : l.yielded ++ into_iter_items l.share-iterator ≡ into_iter_items l.initial.share-iterator;
  count : into_iter_len l.share-iterator ≡ length (into_iter_items l.share-iterator);
  many : length l.listed.items ≡ length l.yielded;
  replies : g.S.ReplySink.appended (first_of (batch_of_finished l.finished)) l.fn.answered
      (take (length l.yielded * l.size) (replies_of l.finished)) l.answered;
  listed : (i : ℕ) (d : ListedWrites) → i < length l.listed.items
      → AreListedFrom (keys_of l.history.chains) (batch_of_finished l.finished) (i * l.size) l.size (get_or l.listed.items i d);
}
