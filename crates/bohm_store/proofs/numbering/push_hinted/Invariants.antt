use Rattle.std.proofs.Common.{◌≡◌, length, take}
use Rattle.bohm_log.specs.Layers.{all_names}
use Rattle.bohm_store.specs.Writes.{AreNumbersOf}
use Rattle.bohm_store.proofs.numbering.push_hinted.Given as goal

abbrev pub invariant-loop-i : goal.invariant-loop-i
invariant-loop-i l = record {
  count : length l.numbers.items ≡ l.i;
  numbers : AreNumbersOf (all_names l.names) l.numbers.items (take l.i l.keys);
}
