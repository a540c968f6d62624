use Rattle.std.proofs.Common.{◌≡◌, ◌≤◌, length, true}
use Rattle.std.specs.List.{list_all, sum}
use Rattle.bohm_place.specs.Cuttings.{is_size}
use Rattle.bohm_explain.proofs.Cutting.{IsCutTo}
use Rattle.bohm_explain.proofs.parts.cut_log.Given as goal

abbrev pub invariant-loop-count : goal.invariant-loop-count
invariant-loop-count l = record {
  inside : l.start ≤ length l.log;
  cut : IsCutTo l.settings l.log l.start l.sizes.items l.ways.items;
  paired : length l.ways.items ≡ length l.sizes.items;
  total : sum l.sizes.items ≡ l.start;
  sized : list_all is_size l.sizes.items ≡ true;
}
