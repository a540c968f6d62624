use Rattle.std.proofs.Common.{◌<◌, ◌≤◌, ℕ, length, slice_index}
use Rattle.bohm_explain.proofs.walking.heaviest_end.Given as goal

abbrev pub invariant-loop-position : goal.invariant-loop-position
invariant-loop-position l = record {
  inside : l.end < length l.heaviest;
  none_above : (k : ℕ) → k < l.position → slice_index l.heaviest k ≤ slice_index l.heaviest l.end;
}
