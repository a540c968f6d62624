use Rattle.std.proofs.Common.{◌≡◌, to_z, w64, pos, true, false, arith, subst}
use Rattle.std.proofs.lemmas.Int.{ints}
use Rattle.sqlite_trees.specs.View.{Finds}
use Rattle.bohm_ledger.specs.Rows.{batch_tree}
use Rattle.bohm_ledger.proofs.Placing as lemma
use Rattle.bohm_ledger.proofs.ledger.Ledger.batch_at.Goals as goal

pub returns-then-place-self-clause-found : goal.returns-then-place-self-clause-found
returns-then-place-self-clause-found g c clean bs ready = lemma.later _ _ _ _ _ _ _ _ ready c.args.place (omega (arith, c.if-place-self.true))

pub returns-then-not-branch-clause-found : goal.returns-then-not-branch-clause-found
returns-then-not-branch-clause-found g c clean bs ready =
    let old = g.S.Store.view c.args.self.now.store in
    let place = c.args.place in
    let same : to_z w64 place ≡ pos place = grind (arith, ints) in
    lemma.missing _ _ _ _ _ _ _ _ ready place c.get.new.row
    (subst (λ z. Finds (old.trees batch_tree) z c.get.new.row false) same (rw c.if-not-branch.true at (c.in_ok-get.ensures.ok clean)))

pub returns-in_ok-from_slice-in-Some-clause-found : goal.returns-in_ok-from_slice-in-Some-clause-found
returns-in_ok-from_slice-in-Some-clause-found g c clean bs ready =
    let old = g.S.Store.view c.args.self.now.store in
    let place = c.args.place in
    let same : to_z w64 place ≡ pos place = grind (arith, ints) in
    let there = subst (λ z. Finds (old.trees batch_tree) z c.get.new.row true) same (rw c.if-not-branch.false at (c.in_ok-get.ensures.ok clean)) in
    rw c.in_ok-from_slice-in-Some.ensures.items
    (lemma.found _ _ _ _ _ _ _ _ ready place c.in-Some.field-0-0 c.in-Some.field-0-1 c.in-Some.text.now c.get.new.row there c.in-Some.ensures.0)

pub returns-in-None-clause-no_ledger : goal.returns-in-None-clause-no_ledger
returns-in-None-clause-no_ledger g c is clean bs ready =
    let old = g.S.Store.view c.args.self.now.store in
    let place = c.args.place in
    let same : to_z w64 place ≡ pos place = grind (arith, ints) in
    let there = subst (λ z. Finds (old.trees batch_tree) z c.get.new.row true) same (rw c.if-not-branch.false at (c.in_ok-get.ensures.ok clean)) in
    lemma.found_batch _ _ _ _ _ _ _ _ ready place c.get.new.row there c.in-None.ensures
