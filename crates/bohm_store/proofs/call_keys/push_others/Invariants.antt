-- The cells of the keys up to an index are in the registers.
use Rattle.std.proofs.Common.{◌≡◌, ◌++◌, map, drop, length}
use Rattle.bohm_store.specs.Versions.{past}
use Rattle.bohm_store.specs.Numbered.{timeline}
use Rattle.bohm_store.proofs.call_keys.push_others.Given as goal

abbrev pub invariant-loop-i : goal.invariant-loop-i
invariant-loop-i l = record {
  so_far : l.registers.cells ++ map (past (timeline l.names l.numbered) l.numbered.top) (drop l.i l.keys)
      ≡ l.initial.registers.cells ++ map (past (timeline l.names l.numbered) l.numbered.top) (drop l.first l.keys);
  long : length l.registers.cells ≡ l.i;
}
