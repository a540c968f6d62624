use Rattle.std.proofs.Common.{take}
use Rattle.bohm_log.specs.Parts.{Begins}
use Rattle.bohm_store.specs.Writes.{AreNumbersOf}
use Rattle.bohm_store.proofs.call_keys.number_first.Given as goal

abbrev pub invariant-loop-i : goal.invariant-loop-i
invariant-loop-i l = record {
  longer : Begins l.initial.names l.names;
  numbers : AreNumbersOf l.names l.numbers.items (take l.i l.keys);
}
