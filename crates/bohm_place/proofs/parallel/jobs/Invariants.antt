use Rattle.std.proofs.Common.{◌≡◌, ◌<◌, ℕ, All, length, slice_index_or}
use Rattle.bohm_place.specs.declared.by_number.NumberJob.{NumberJob}
use Rattle.bohm_place.proofs.parallel.jobs.Given as goal

abbrev pub invariant-loop-number : goal.invariant-loop-number
invariant-loop-number l = record {
  count : length l.jobs.items ≡ l.number;
  same : length l.arrays.items ≡ l.count;
  workers : (w : ℕ) (d : NumberJob) → w < l.number
      → ((slice_index_or l.jobs.items w d).worker.number ≡ w) × ((slice_index_or l.jobs.items w d).worker.count ≡ l.count);
  below : (t : ℕ) → All (λ a. All (λ v. v.begin < t) a) l.initial.arrays.items → All (λ p. All (λ v. v.begin < t) p.newest) l.jobs.items;
  rest : (t : ℕ) → All (λ a. All (λ v. v.begin < t) a) l.initial.arrays.items → All (λ a. All (λ v. v.begin < t) a) l.arrays.items;
}
