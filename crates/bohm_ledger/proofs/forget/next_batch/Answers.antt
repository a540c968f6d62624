use Rattle.std.proofs.Common.{arith, ap, sym, ◌∙◌, subst}
use Rattle.sqlite_trees.specs.View.{IsClean, Advances}
use Rattle.bohm_ledger.specs.Steps.{left_of}
use Rattle.bohm_ledger.proofs.Reading.{stepped}
use Rattle.bohm_ledger.proofs.Forgetting as lemma
use Rattle.bohm_ledger.proofs.forget.next_batch.Goals as goal

pub returns-clause-there : goal.returns-clause-there
returns-clause-there g c = lemma.if_ok_weaker c.next.result (λ found ok clean yes.
    let mid = g.S.Store.view c.seek.new.self in
    let now = g.S.Store.view c.next.new.self in
    let second : IsClean mid = omega (arith, c.next.ensures.quiet.clean) in
    let moved = stepped mid now 0 c.next.new.row (subst (Advances mid now 0 c.next.new.row) yes (ok clean)) in
    lemma.first_in _ _ _ _ _ (sym (ap (λ v. left_of v 0) (c.in_ok-seek.ensures.ok second)) ∙ moved)) c.next.ensures.ok
