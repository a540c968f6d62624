use Rattle.std.proofs.Common.{◌≡◌, ◌⊎◌, inl, inr, ◌+◌, ◌<◌, ◌≤◌, pos, to_z, w64, arith, ap, subst, sym, ◌∙◌, false}
use Rattle.std.proofs.lemmas.Int.{ints}
use Rattle.sqlite_trees.specs.Tree.{without_rowid}
use Rattle.sqlite_value.specs.Order.{Row}
use Rattle.sqlite_trees.specs.View.{View, IsClean, SetsTree}
use Rattle.bohm_ledger.specs.Rows.{Has, batch_tree, place_of, first_of, text_of}
use Rattle.bohm_ledger.specs.Steps.{IsFirstFrom}
use Rattle.bohm_ledger.proofs.Forgetting as lemma
use Rattle.bohm_ledger.proofs.Placing.{are_batches}
use Rattle.bohm_ledger.proofs.Storing.{sets_from}
use Rattle.bohm_ledger.proofs.Thinning as thinning
use Rattle.bohm_ledger.proofs.forget.forget_one.Goals as goal
use Rattle.bohm_ledger.proofs.forget.forget_one.Goals.{then-at-next-via-then-at-next, then-at-next-via-else-at-next+then-size-bound, then-at-next-via-else-at-next+else-size-bound+then-first-bound}

pub returns-clause-ok : goal.returns-clause-ok
returns-clause-ok g c clean =
    let mid = g.S.Store.view c.next_batch.new.store in
    let now = g.S.Store.view c.delete.new.self in
    let before : IsClean mid = omega (arith, c.delete.ensures.quiet.clean) in
    let same : to_z w64 c.in-Some.at ≡ pos c.in-Some.at = grind (arith, ints) in
    let there = subst (λ r. Has r ((g.S.Store.view c.args.store.now).trees batch_tree)) c.in-Some.ensures.0
    (c.in_ok-next_batch.ensures.there before c.if-not-branch.false) in
    lemma.forgets_one _ _ _ _ mid now c.in-Some.at c.in-Some.first _ (c.in_ok-next_batch.ensures.same before)
    (subst (λ z. SetsTree mid now batch_tree (without_rowid z)) same (c.in_ok-delete.ensures.ok clean)) there
    (sym c.is_plain.ensures ∙ c.if-not-is_plain.false) (omega arith) (omega arith)

pub returns-in_default-clause-no_ledger : goal.returns-in_default-clause-no_ledger
returns-in_default-clause-no_ledger g c is clean checkpoint bs low placed kept =
    let there = c.in_ok-next_batch.ensures.there clean c.if-not-branch.false in
    let form = are_batches g.M.Machine.rules checkpoint bs 1 1 ((g.S.Store.view c.args.store.now).trees batch_tree) kept c.next_batch.new.row there in
    c.in_default.ensures form.0 form.1 form.2 form.3

pub returns-then-not-branch-clause-young : goal.returns-then-not-branch-clause-young
returns-then-not-branch-clause-young g c clean is young row there old =
    let was = (g.S.Store.view c.args.store.now).trees batch_tree in
    let none = subst (λ b. IsFirstFrom c.args.place c.next_batch.new.row b was) c.if-not-branch.true (c.in_ok-next_batch.ensures.first clean) in
    let same = ap (λ (v : View). v.trees batch_tree) (c.in_ok-next_batch.ensures.same clean) in
    thinning.none_left g.M.Machine.rules c.args.bound c.args.next c.args.place was is young none row (subst (Has row) same there) old

pub returns-then-at-next-clause-young : goal.returns-then-at-next-clause-young
returns-then-at-next-clause-young g c clean is young row there old =
    let rules = g.M.Machine.rules in
    let was = (g.S.Store.view c.args.store.now).trees batch_tree in
    let found = c.next_batch.new.row in
    let first = subst (λ b. IsFirstFrom c.args.place found b was) c.if-not-branch.false (c.in_ok-next_batch.ensures.first clean) in
    let here = c.in_ok-next_batch.ensures.there clean c.if-not-branch.false in
    let same = ap (λ (v : View). v.trees batch_tree) (c.in_ok-next_batch.ensures.same clean) in
    let place : place_of found ≡ c.in-Some.at = ap place_of c.in-Some.ensures.0 in
    let from : first_of found ≡ c.in-Some.first = ap first_of c.in-Some.ensures.0 in
    let size : rules.size (text_of found) ≡ c.size-size.result = ap (λ (r : Row). rules.size (text_of r)) c.in-Some.ensures.0 ∙ sym c.size-size.ensures in
    let some = (thinning.later rules is.checkpoint is.batches 1 1 was is.kept found here).1 in
    let late : (c.args.next ≤ place_of found + 1) ⊎ (c.args.bound + 1 < first_of found + rules.size (text_of found)) =
    elim c.then-at-next.branch [
      | then-at-next-via-then-at-next w ↦ inl (omega (arith, place))
      | then-at-next-via-else-at-next+then-size-bound w ↦ inr (omega (arith, from, size, some))
      | then-at-next-via-else-at-next+else-size-bound+then-first-bound w ↦ inr (omega (arith, from, size))
    ] in
    thinning.late_row rules c.args.bound c.args.next c.args.place was is young found first.0 first.1 here late row (subst (Has row) same there) old

pub returns-then-not-is_plain-clause-young : goal.returns-then-not-is_plain-clause-young
returns-then-not-is_plain-clause-young g c clean is young row there low old =
    let rules = g.M.Machine.rules in
    let was = (g.S.Store.view c.args.store.now).trees batch_tree in
    let found = c.next_batch.new.row in
    let first = subst (λ b. IsFirstFrom c.args.place found b was) c.if-not-branch.false (c.in_ok-next_batch.ensures.first clean) in
    let here = c.in_ok-next_batch.ensures.there clean c.if-not-branch.false in
    let same = ap (λ (v : View). v.trees batch_tree) (c.in_ok-next_batch.ensures.same clean) in
    let place : place_of found ≡ c.in-Some.at = ap place_of c.in-Some.ensures.0 in
    let defining : rules.is_plain (text_of found) ≡ false = ap (λ (r : Row). rules.is_plain (text_of r)) c.in-Some.ensures.0
    ∙ (sym c.is_plain.ensures ∙ c.if-not-is_plain.true) in
    thinning.kept_row rules c.args.bound c.args.next c.args.place was is young found first.0 first.1 here defining row (subst (Has row) same there)
    (omega (arith, place, low)) old

pub returns-clause-young : goal.returns-clause-young
returns-clause-young g c clean is young row there low old =
    let rules = g.M.Machine.rules in
    let was = (g.S.Store.view c.args.store.now).trees batch_tree in
    let mid = g.S.Store.view c.next_batch.new.store in
    let now = g.S.Store.view c.delete.new.self in
    let before : IsClean mid = omega (arith, c.delete.ensures.quiet.clean) in
    let found = c.next_batch.new.row in
    let first = subst (λ b. IsFirstFrom c.args.place found b was) c.if-not-branch.false (c.in_ok-next_batch.ensures.first before) in
    let here = c.in_ok-next_batch.ensures.there before c.if-not-branch.false in
    let number : to_z w64 c.in-Some.at ≡ pos c.in-Some.at = grind (arith, ints) in
    let sets = subst (λ z. SetsTree mid now batch_tree (without_rowid z)) number (c.in_ok-delete.ensures.ok clean) in
    let less = (sets_from mid now batch_tree (without_rowid (pos c.in-Some.at)) sets).this
    ∙ ap (λ (v : View). without_rowid (pos c.in-Some.at) (v.trees batch_tree)) (c.in_ok-next_batch.ensures.same before) in
    thinning.gone_row rules c.args.bound c.args.next c.args.place was is young found first.0 first.1 here c.in-Some.at c.in-Some.first _ c.in-Some.ensures.0
    row (subst (Has row) less there) low old
