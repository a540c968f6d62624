use Rattle.std.proofs.Common.{◌≤◌, length, take}
use Rattle.bohm_log.specs.Parts.{Begins}
use Rattle.bohm_store.specs.Writes.{AreNumbersOf}
use Rattle.bohm_store.proofs.numbering.number_all.Given as goal

abbrev pub invariant-loop-i : goal.invariant-loop-i
invariant-loop-i l = record {
  inside : l.i ≤ length l.keys;
  longer : Begins l.initial.names l.names;
  numbers : AreNumbersOf l.names l.numbers.items (take l.i l.keys);
}
