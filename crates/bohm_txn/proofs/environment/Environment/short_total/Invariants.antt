use Rattle.std.proofs.Common.{◌≡◌, ◌*◌, ◌^◌, drop, map, pos}
use Rattle.std.specs.Prelude.{◌≤ℤ◌}
use lib.IntN.{neg_ℤ}
use Rattle.bohm_log.specs.Parts.{term_of}
use Rattle.bohm_txn.specs.Meaning.{total_from}
use Rattle.bohm_txn.specs.Seeing.{look_of}
use Rattle.bohm_txn.proofs.environment.Environment.short_total.Given as goal

abbrev pub invariant-loop-term : goal.invariant-loop-term
invariant-loop-term l = record {
  low : neg_ℤ (pos (l.term-index * 2 ^ 58)) ≤ℤ l.total;
  high : l.total ≤ℤ pos (l.term-index * 2 ^ 58);
  so_far : total_from (look_of l.self) l.self.locals.now l.total (map (term_of l.self.txn.now) (drop l.term-index l.terms)) ≡ total_from
      (look_of l.self) l.self.locals.now (pos 0) (map (term_of l.self.txn.now) l.terms);
}
