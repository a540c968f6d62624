use Rattle.std.proofs.Common.{◌≡◌, ◌-◌, ◌*◌, ◌^◌, ◌≤◌, drop, map}
use Rattle.bohm_log.specs.Parts.{term_of}
use Rattle.bohm_txn.specs.Literals.{none_yet, literals_from}
use Rattle.bohm_txn.proofs.sureness.Literals.of.Given as goal

abbrev pub invariant-loop-term : goal.invariant-loop-term
invariant-loop-term l = record {
  added : l.literals.added ≤ l.term-index * (2 ^ 64 - 1);
  taken : l.literals.taken ≤ l.term-index * (2 ^ 64 - 1);
  so_far : literals_from l.literals (map (term_of l.txn) (drop l.term-index l.terms)) ≡ literals_from none_yet (map (term_of l.txn) l.terms);
}
