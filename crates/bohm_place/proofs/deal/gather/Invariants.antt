use Rattle.std.proofs.Common.{◌≡◌, ◌≢◌, ℕ, ◌<◌, ◌≤◌, ◌%◌, ◌++◌, [], true, length, IfOk, slice_index_or, nat_lt, Result, List}
use Rattle.bohm_types.specs.declared.memory.NoMemory.{NoMemory}
use Rattle.bohm_place.specs.Chains.{placeholders_in}
use Rattle.bohm_place.specs.Shares.{placeholders_made, found_by, newest_ahead, IsFoundInAll}
use Rattle.bohm_place.specs.declared.by_key.FoundInParts.{FoundInParts}
use Rattle.bohm_place.proofs.deal.gather.Given as goal

abbrev pub invariant-loop-number : goal.invariant-loop-number
invariant-loop-number g l =
    let part = g.P.Partition.part_of l.partition in
    let given = l.fn.given.value.items in
    record {
      count : length l.each.items ≡ l.count;
      each : (w : ℕ) (d : Result FoundInParts NoMemory) → l.number ≤ w → w < l.count
          → IfOk (slice_index_or l.each.items w d) (λ f. IsFoundInAll part l.count w l.batch.first l.batch.txns.now given f.found.items f.parts.items);
      chains : (k : List ℕ) → nat_lt (part k % l.count) l.number ≡ true
          → placeholders_in part l.parts k ≡ placeholders_in part given k ++ placeholders_made l.batch.first l.batch.txns.now k;
      others : (i : ℕ) (k : List ℕ) → i < length given → nat_lt (i % l.count) l.number ≡ true → part k ≢ i
          → placeholders_in (λ _. i) l.parts k ≡ placeholders_in (λ _. i) given k;
      found : 0 < l.number → l.found.items ≡ found_by (λ k. nat_lt (part k % l.count) l.number)
          (newest_ahead l.batch.first (placeholders_in part given)) [] l.batch.txns.now;
    }
