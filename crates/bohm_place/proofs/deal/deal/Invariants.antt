use Rattle.std.proofs.Common.{◌≡◌, ℕ, ◌<◌, ◌≤◌, ◌%◌, length, slice_get, slice_index_or}
use Rattle.bohm_place.specs.Shares.{HasPartsOf}
use Rattle.bohm_place.specs.declared.by_key.PartsJob.{PartsJob}
use Rattle.bohm_place.proofs.deal.deal.Given as goal

abbrev pub invariant-loop-number : goal.invariant-loop-number
invariant-loop-number l = record {
  count : length l.jobs.items ≡ l.number;
  workers : (w : ℕ) (d : PartsJob) → w < l.number
      → ((slice_index_or l.jobs.items w d).worker.number ≡ w) × ((slice_index_or l.jobs.items w d).worker.count ≡ l.workers);
  own : (w : ℕ) (d : PartsJob) → w < l.number → HasPartsOf l.workers w l.initial.parts (slice_index_or l.jobs.items w d).parts.items;
  parts : (w : ℕ) (d : PartsJob) → w < l.number → length (slice_index_or l.jobs.items w d).parts.items ≡ length l.initial.parts;
  left : (p : ℕ) → p < length l.initial.parts → l.number ≤ p % l.workers → slice_get l.parts p ≡ slice_get l.initial.parts p;
}
