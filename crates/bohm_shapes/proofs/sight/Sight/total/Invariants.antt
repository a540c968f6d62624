use Rattle.std.proofs.Common.{◌≡◌, ◌*◌, ◌^◌, drop, pos}
use Rattle.std.specs.Prelude.{◌≤ℤ◌}
use lib.IntN.{neg_ℤ}
use Rattle.bohm_txn.specs.Meaning.{total_from}
use Rattle.bohm_shapes.specs.Seeing.{locals_of, look_of, sum_seen}
use Rattle.bohm_shapes.proofs.sight.Sight.total.Given as goal

abbrev pub invariant-loop-term : goal.invariant-loop-term
invariant-loop-term l = record {
  low : neg_ℤ (pos (l.term-index * 2 ^ 64)) ≤ℤ l.total;
  high : l.total ≤ℤ pos (l.term-index * 2 ^ 64);
  so_far : total_from (look_of l.self) (locals_of l.self) l.total (sum_seen l.self (drop l.term-index l.terms)) ≡ total_from
      (look_of l.self) (locals_of l.self) (pos 0) (sum_seen l.self l.terms);
}
