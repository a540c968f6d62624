use Rattle.std.proofs.Common.{◌≡◌, ◌+◌, ◌≤◌, length}
use Rattle.bohm_entries.specs.Batches.{count, entries_of}
use Rattle.bohm_entries.proofs.batch.count_transactions.Given as goal

abbrev pub invariant-entries : goal.invariant-entries
invariant-entries l = record {
  counted : l.transactions + count (entries_of l.rest) ≡ count (entries_of l.fn.batch);
  few : l.transactions + length l.rest ≤ length l.fn.batch;
}

abbrev pub decreases-entries : goal.decreases-entries
decreases-entries l = length l.rest
