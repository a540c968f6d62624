use Rattle.std.proofs.Common.{◌≡◌, drop, map}
use Rattle.std.specs.List.{list_all}
use Rattle.bohm_log.specs.Parts.{stmt_of, term_of}
use Rattle.bohm_txn.specs.Faulty.{locals_bound}
use Rattle.bohm_txn.proofs.rules.are_defined.Given as goal

abbrev pub invariant-loop-term : goal.invariant-loop-term
invariant-loop-term l = list_all (λ term. locals_bound (map (stmt_of l.txn) l.before) term.1) (map (term_of l.txn) (drop l.term-index l.terms)) ≡ list_all
    (λ term. locals_bound (map (stmt_of l.txn) l.before) term.1) (map (term_of l.txn) l.terms)
