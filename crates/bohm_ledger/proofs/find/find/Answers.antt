use Rattle.std.proofs.Common.{◌≡◌, refl, arith, ◌∙◌, sym, subst, [], ◌∷◌}
use Rattle.sqlite_value.specs.declared.value.Value.TheVariants.{Text}
use Rattle.sqlite_value.specs.Keys.{plain}
use Rattle.sqlite_trees.specs.declared.store.Shape.TheVariants.{Index}
use Rattle.sqlite_trees.specs.Tree.{from_key, IsIndex}
use Rattle.sqlite_trees.specs.View.{IsClean, IsShaped}
use Rattle.bohm_ledger.specs.Rows.{request_tree}
use Rattle.bohm_ledger.specs.Steps.{left_of}
use Rattle.bohm_ledger.proofs.Reading.{stepped, ended}
use Rattle.bohm_ledger.proofs.Finding as lemma
use Rattle.bohm_ledger.proofs.find.find.Goals as goal

pub returns-then-not-branch-clause-ok : goal.returns-then-not-branch-clause-ok
returns-then-not-branch-clause-ok g c clean all =
    let old = g.S.Store.view c.args.store.now in
    let id = c.args.id.now in
    let second : IsClean (g.S.Store.view c.seek.new.self) = omega (arith, c.next.ensures.quiet.clean) in
    let first : IsClean old = omega (arith, c.seek.ensures.quiet.clean) in
    let shape : old.shape request_tree ≡ Index plain = (c.requires.steady first).tables.request in
    let sorted : IsIndex plain (old.trees request_tree) = subst (λ s. IsShaped s (old.trees request_tree)) shape
    (g.met.S.Store.ordered c.args.store.now (c.in_ok-seek.ensures.sound second) request_tree) in
    let left : left_of (g.S.Store.view c.seek.new.self) 0 ≡ from_key plain (Text id ∷ []) (old.trees request_tree) =
    rw (c.in_ok-seek.ensures.ok second, c.in_ok-push.ensures.ok, c.clear.ensures, shape) refl in
    let none = ended (g.S.Store.view c.seek.new.self) (g.S.Store.view c.next.new.self) 0 c.next.new.row
    (rw c.if-not-branch.true at (c.in_ok-next.ensures.ok clean)) in
    lemma.finds_none id c.next.new.row (old.trees request_tree) sorted all (sym left ∙ none)

pub returns-clause-ok : goal.returns-clause-ok
returns-clause-ok g c clean all =
    let old = g.S.Store.view c.args.store.now in
    let id = c.args.id.now in
    let second : IsClean (g.S.Store.view c.seek.new.self) = omega (arith, c.next.ensures.quiet.clean) in
    let first : IsClean old = omega (arith, c.seek.ensures.quiet.clean) in
    let shape : old.shape request_tree ≡ Index plain = (c.requires.steady first).tables.request in
    let sorted : IsIndex plain (old.trees request_tree) = subst (λ s. IsShaped s (old.trees request_tree)) shape
    (g.met.S.Store.ordered c.args.store.now (c.in_ok-seek.ensures.sound second) request_tree) in
    let left : left_of (g.S.Store.view c.seek.new.self) 0 ≡ from_key plain (Text id ∷ []) (old.trees request_tree) =
    rw (c.in_ok-seek.ensures.ok second, c.in_ok-push.ensures.ok, c.clear.ensures, shape) refl in
    let some = stepped (g.S.Store.view c.seek.new.self) (g.S.Store.view c.next.new.self) 0 c.next.new.row
    (rw c.if-not-branch.false at (c.in_ok-next.ensures.ok clean)) in
    lemma.finds _ id _ _ (old.trees request_tree) sorted all (sym left ∙ some) c.begins_with.ensures.yes c.begins_with.ensures.no
