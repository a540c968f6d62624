use Rattle.std.proofs.Common.{◌<◌, length}
use Rattle.bohm_explain.proofs.WalkBack.{Walked, IsPassed}
use Rattle.bohm_explain.proofs.walking.chain_to.Given as goal

abbrev pub invariant-loop-index : goal.invariant-loop-index
invariant-loop-index l = record {
  inside : l.first < length l.weights;
  walked : Walked l.weights l.arrows l.end l.first l.chain.items;
  passed : IsPassed l.weights l.arrows l.index l.first;
}
