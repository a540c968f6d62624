use Rattle.std.proofs.Common.{◌≡◌, ℕ, ◌+◌, ◌-◌, ◌≤◌, ◌*◌, length, drop}
use Rattle.std.specs.List.{slice_index}
use Rattle.bohm_explain.proofs.Steps.{led_from}
use Rattle.bohm_explain.proofs.chains.heaviest_from.Given as goal

abbrev pub invariant-loop-index : goal.invariant-loop-index
invariant-loop-index l = record {
  paired : length l.heaviest.items ≡ length l.weights;
  chains : l.heaviest.items ≡ led_from l.weights (drop l.index l.arrows);
  light : (k : ℕ) → slice_index l.heaviest.items k ≤ 3072 * ((length l.arrows - l.index) + 1);
}
