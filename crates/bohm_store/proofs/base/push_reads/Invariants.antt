-- The cells of the first reads are in the scratch.
use Rattle.std.proofs.Common.{◌≡◌, ◌++◌, map, drop, length}
use Rattle.bohm_store.specs.Versions.{past}
use Rattle.bohm_store.specs.Numbered.{timeline}
use Rattle.bohm_store.proofs.base.push_reads.Given as goal

abbrev pub invariant-loop-i : goal.invariant-loop-i
invariant-loop-i l = record {
  so_far : l.scratch.seen ++ map (past (timeline l.names l.numbered) l.numbered.top) (drop l.i l.keys)
      ≡ map (past (timeline l.names l.numbered) l.numbered.top) l.keys;
  long : length l.scratch.seen ≡ l.i;
  cells : l.scratch.cells ≡ l.initial.scratch.cells;
}
