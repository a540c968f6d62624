use Rattle.std.proofs.Common.{◌≡◌, ℕ, List, ◌||◌, take, if◌then◌else◌}
use Rattle.bohm_types.specs.Keys.{is_among}
use Rattle.bohm_explain.specs.Tallies.{lists, plus, tally}
use Rattle.bohm_explain.proofs.tallies.count_keys.Given as goal

abbrev pub invariant-loop-index : goal.invariant-loop-index
invariant-loop-index l = record {
  counts : (k : List ℕ) → tally l.tallies k ≡ (if is_among (take l.index l.keys) k then plus l.set (tally l.initial.tallies k) else tally l.initial.tallies k);
  listed : (k : List ℕ) → lists l.tallies k ≡ (lists l.initial.tallies k || is_among (take l.index l.keys) k);
}
