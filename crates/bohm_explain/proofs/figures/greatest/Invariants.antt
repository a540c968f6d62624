use Rattle.std.proofs.Common.{◌≡◌, max, drop}
use Rattle.bohm_place.specs.Chains.{greatest}
use Rattle.bohm_explain.proofs.figures.greatest.Given as goal

abbrev pub invariant-loop-value : goal.invariant-loop-value
invariant-loop-value l = max l.most (greatest (drop l.value-index l.values)) ≡ greatest l.values
