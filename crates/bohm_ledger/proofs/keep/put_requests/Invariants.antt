use Rattle.std.proofs.Common.{take}
use Rattle.sqlite_trees.specs.View.{IsClean, KeepsCommitted, KeepsSchema, IsQuiet}
use Rattle.bohm_ledger.specs.Rows.{request_tree}
use Rattle.bohm_ledger.specs.Steps.{Sets, with_requests}
use Rattle.bohm_ledger.proofs.keep.put_requests.Given as goal

abbrev pub invariant-loop-answer : goal.invariant-loop-answer
invariant-loop-answer g l =
    let old = g.S.Store.view l.fn.store in
    let now = g.S.Store.view l.store in
    record {
      sets : IsClean now → Sets old now request_tree (with_requests l.place (take l.answer-index l.answers) (old.trees request_tree));
      kept : IsClean now → KeepsCommitted old now;
      schema : KeepsSchema old now;
      quiet : IsQuiet g.S.Store.view g.S.Store.faults g.S.Store.recovers g.S.Store.is_shielded l.fn.store l.store;
    }
