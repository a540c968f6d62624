use Rattle.std.proofs.Common.{◌≡◌, ◌+◌, length, map, take}
use Rattle.std.specs.List.{slice_index}
use Rattle.bohm_explain.proofs.chains.chains_through.Given as goal

abbrev pub invariant-loop-arrow : goal.invariant-loop-arrow
invariant-loop-arrow l = record {
  paired : length l.chains.items ≡ l.arrow-index;
  chains : l.chains.items ≡ map (λ a. slice_index l.to a.from + slice_index l.from a.to) (take l.arrow-index l.arrows);
}
