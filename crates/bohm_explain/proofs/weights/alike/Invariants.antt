use Rattle.std.proofs.Common.{◌≡◌, ◌≤◌, length, replicate, All}
use Rattle.bohm_explain.proofs.weights.alike.Given as goal

abbrev pub invariant-loop-index : goal.invariant-loop-index
invariant-loop-index l = record {
  weights : l.weights.items ≡ replicate l.index 1;
  paired : length l.weights.items ≡ l.index;
  light : All (λ w. w ≤ 3072) l.weights.items;
}
