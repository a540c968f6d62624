-- The first fresh keys have their numbers.
use Rattle.std.proofs.Common.{map, take}
use Rattle.bohm_log.specs.Parts.{Begins}
use Rattle.bohm_store.specs.Writes.{AreNumbersOf}
use Rattle.bohm_store.proofs.share_numbers.number_fresh.Given as goal

abbrev pub invariant-loop-one : goal.invariant-loop-one
invariant-loop-one l = record {
  longer : Begins l.initial.names l.names;
  numbers : AreNumbersOf l.names l.numbers.items (map (λ f. f.key) (take l.one-index l.fresh));
}
