use Rattle.std.proofs.Common.{◌≡◌, ◌≤◌, ◌++◌, length, drop, map, All}
use Rattle.bohm_explain.specs.Weighing.{weight}
use Rattle.bohm_explain.proofs.weights.weights.Given as goal

abbrev pub invariant-loop-index : goal.invariant-loop-index
invariant-loop-index l = record {
  paired : length l.weights.items ≡ l.index;
  weights : l.weights.items ++ map weight (drop l.index l.txns) ≡ map weight l.txns;
  light : All (λ w. w ≤ 3072) l.weights.items;
}
