use Rattle.std.proofs.Common.{◌≡◌, ℕ, List, map, take}
use Rattle.bohm_types.specs.Keys.{place}
use Rattle.bohm_types.specs.Procedure.{stands_for}
use Rattle.bohm_log.specs.Columns.{AllNamed}
use Rattle.bohm_log.specs.Parts.{Begins, names_at}
use Rattle.bohm_machine.proofs.single_calls.push_numbers.Given as goal

abbrev pub invariant-loop-i : goal.invariant-loop-i
invariant-loop-i l = record {
  grows : Begins l.fn.names l.names;
  named : AllNamed l.names l.numbers.items;
  keys : (ps : List (List ℕ)) → l.parameters ≡ map (place ps) l.declared
      → names_at l.names l.numbers.items ≡ map (stands_for ps (names_at l.fn.names l.arguments)) (take l.i l.declared);
}
