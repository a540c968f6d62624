use Rattle.std.proofs.Common.{◌≡◌, ◌≤◌, ◌*◌, take, sum_by}
use Rattle.bohm_explain.specs.Weighing.{declared_by}
use Rattle.bohm_explain.proofs.weights.declared.Given as goal

abbrev pub invariant-loop-index : goal.invariant-loop-index
invariant-loop-index l = record { keys : l.keys ≡ sum_by declared_by (take l.index l.txns); few : l.keys ≤ 32 * l.index }
