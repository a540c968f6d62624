use Rattle.std.proofs.Common.{◌≡◌, ℕ, ◌+◌, ◌≤◌, ◌*◌, length, drop}
use Rattle.std.specs.List.{fold, slice_index}
use Rattle.bohm_explain.proofs.Steps.{lengthened}
use Rattle.bohm_explain.proofs.chains.heaviest_to.Given as goal

abbrev pub invariant-loop-arrow : goal.invariant-loop-arrow
invariant-loop-arrow l = record {
  paired : length l.heaviest.items ≡ length l.weights;
  chains : fold (lengthened l.weights) l.heaviest.items (drop l.arrow-index l.arrows) ≡ fold (lengthened l.weights) l.weights l.arrows;
  light : (k : ℕ) → slice_index l.heaviest.items k ≤ 3072 * (l.arrow-index + 1);
}
