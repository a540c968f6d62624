use Rattle.std.proofs.Common.{◌≡◌, ℕ, ◌+◌, ◌<◌, ◌≤◌, ◌%◌, [], All, length, IfOk, slice_index_or, nat_lt, Result}
use Rattle.bohm_types.specs.declared.memory.NoMemory.{NoMemory}
use Rattle.bohm_place.specs.Shares.{keys_of, found_by, ahead_of}
use Rattle.bohm_place.specs.Numbered.{IsFoundByNumber}
use Rattle.bohm_place.specs.declared.by_number.FoundByNumber.{FoundByNumber}
use Rattle.bohm_place.proofs.parallel.gather.Given as goal

abbrev pub invariant-loop-number : goal.invariant-loop-number
invariant-loop-number g l =
    let part = g.P.Partition.part_of l.partition in
    record {
      count : length l.each.items ≡ l.count;
      each : (w : ℕ) (d : Result FoundByNumber NoMemory) → l.number ≤ w → w < l.count
          → IfOk (slice_index_or l.each.items w d) (λ s. IsFoundByNumber (keys_of part l.count w) l.batch.first l.batch.txns.now s.found.items s.newest);
      arrays : length l.arrays.items ≡ l.number;
      below : All (λ a. All (λ v. v.begin < l.batch.first + length l.batch.txns.now) a) l.arrays.items;
      found : 0 < l.number → l.found.items ≡ found_by (λ k. nat_lt (part k % l.count) l.number) (ahead_of l.batch.first) [] l.batch.txns.now;
    }
