use Rattle.std.proofs.Common.{arith}
use Rattle.sqlite_trees.specs.View.{IsClean}
use Rattle.bohm_ledger.proofs.Creating as lemma
use Rattle.bohm_ledger.proofs.create.create.Goals as goal

pub returns-clause-ready : goal.returns-clause-ready
returns-clause-ready g c clean blank =
    let second : IsClean (g.S.Store.view c.get.new.self) = omega (arith, c.found.ensures.clean) in
    let first : IsClean (g.S.Store.view c.begin.new.store) = omega (arith, c.get.ensures.quiet.clean) in
    lemma.created _ _ _ _ _ _ _ _ blank (c.in_ok-begin.ensures.ok first) (c.in_ok-get.ensures.same second) (c.in_ok-found.ensures.ok clean)
    (c.in_ok-found.ensures.stored clean)
    c.in_ok-start.ensures.state c.in_ok-start.ensures.saved
