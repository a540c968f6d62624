use Rattle.std.proofs.Common.{arith, rules, ap, sym, ◌∙◌}
use Rattle.sqlite_trees.specs.View.{IsClean}
use Rattle.sqlite_value.specs.declared.value.Value.TheVariants.{Text}
use Rattle.bohm_ledger.proofs.Ready.{steady_kept}
use Rattle.bohm_ledger.proofs.Answering as lemma
use Rattle.bohm_ledger.proofs.ledger.Ledger.request.Goals as goal

pub invariant_of-self : goal.invariant_of-self
invariant_of-self g c = record {
  small = search rules;
  low = search rules;
  steady = λ clean.
      let before : IsClean (g.S.Store.view c.args.self.now.store) = omega (arith, c.find.ensures.quiet.clean) in
      steady_kept _ _ c.find.ensures.schema (c.args.self.now.steady before);
}

pub returns-then-not-branch-clause-found : goal.returns-then-not-branch-clause-found
returns-then-not-branch-clause-found g c clean bs ready =
    lemma.unanswered _ _ _ _ _ _ _ _ ready c.args.id.now c.find.new.row
    (rw c.if-not-branch.true at (c.in_ok-find.ensures.ok clean (lemma.all_requests _ _ _ _ _ _ _ _ ready)))

pub returns-in_ok-from_slice-in-Some-clause-found : goal.returns-in_ok-from_slice-in-Some-clause-found
returns-in_ok-from_slice-in-Some-clause-found g c clean bs ready =
    let found = rw c.if-not-branch.false at (c.in_ok-find.ensures.ok clean (lemma.all_requests _ _ _ _ _ _ _ _ ready)) in
    lemma.answered _ _ _ _ _ _ _ _ ready c.args.id.now _ c.in-Some.place c.find.new.row found.0 found.1 c.in-Some.ensures.0
    (c.in-Some.ensures.1 ∙ ap Text (sym c.in_ok-from_slice-in-Some.ensures.items))

pub returns-in-None-clause-no_ledger : goal.returns-in-None-clause-no_ledger
returns-in-None-clause-no_ledger g c is clean bs ready =
    let found = rw c.if-not-branch.false at (c.in_ok-find.ensures.ok clean (lemma.all_requests _ _ _ _ _ _ _ _ ready)) in
    lemma.found_request _ _ _ _ _ _ _ _ ready c.find.new.row found.0 c.in-None.ensures
