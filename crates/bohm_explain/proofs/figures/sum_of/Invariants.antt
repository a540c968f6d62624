use Rattle.std.proofs.Common.{◌≡◌, ◌≤◌, ◌*◌, take, sum}
use Rattle.bohm_explain.proofs.figures.sum_of.Given as goal

abbrev pub invariant-loop-weight : goal.invariant-loop-weight
invariant-loop-weight l = record { total : l.total ≡ sum (take l.weight-index l.weights); few : l.total ≤ 3072 * l.weight-index }
