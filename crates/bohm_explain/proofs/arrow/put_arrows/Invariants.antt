use Rattle.std.proofs.Common.{◌≡◌, ◌+◌, ◌≤◌, ◌++◌, length, drop}
use Rattle.std.specs.List.{filter_map}
use Rattle.bohm_explain.specs.Wanted.{arrow_of, arrows_in}
use Rattle.bohm_explain.proofs.arrow.put_arrows.Given as goal

abbrev pub invariant-loop-index : goal.invariant-loop-index
invariant-loop-index l = record {
  arrows : l.out.items ++ filter_map (arrow_of l.txns l.to) (drop l.index l.keys) ≡ l.initial.out.items ++ arrows_in l.set l.txns l.to;
  few : length l.out.items ≤ length l.initial.out.items + l.index;
}
