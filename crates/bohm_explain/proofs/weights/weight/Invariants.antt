use Rattle.std.proofs.Common.{◌≡◌, ◌≤◌, ◌*◌, take, sum_by}
use Rattle.bohm_explain.specs.Weighing.{terms_in}
use Rattle.bohm_explain.proofs.weights.weight.Given as goal

abbrev pub invariant-loop-index : goal.invariant-loop-index
invariant-loop-index l = record { terms : l.terms ≡ sum_by terms_in (take l.index l.txn.body); few : l.terms ≤ 48 * l.index }
