use Rattle.std.proofs.Common.{sym, arith}
use Rattle.sqlite_trees.specs.View.{IsClean}
use Rattle.bohm_requests.proofs.Committing as lemma
use Rattle.bohm_requests.proofs.desk.RequestDesk.answer.Goals as goal

pub returns-in_err-finish-clause-any_moment : goal.returns-in_err-finish-clause-any_moment
returns-in_err-finish-clause-any_moment g c clean bs ready db left =
    let mid : IsClean (g.S.Store.view c.collect.new.self.ledger.store) = omega (arith, clean, c.finish.ensures.clean) in
    let same = c.in_ok-taken.ensures.edition in
    rw (c.finish.ensures.waiting, sym same) (lemma.left_by (c.in_ok-taken.ensures.any_moment db)
    (c.in_err-finish.ensures.any_moment clean bs (rw same (c.in_ok-taken.ensures.ready mid bs ready)) db left))

pub returns-clause-durable : goal.returns-clause-durable
returns-clause-durable g c clean bs ready db left =
    let mid : IsClean (g.S.Store.view c.collect.new.self.ledger.store) = omega (arith, clean, c.finish.ensures.clean) in
    let same = c.in_ok-taken.ensures.edition in
    rw (c.finish.ensures.waiting, sym same) (c.in_ok-finish.ensures.durable clean bs (rw same (c.in_ok-taken.ensures.ready mid bs ready)) db left)

pub returns-clause-any_moment : goal.returns-clause-any_moment
returns-clause-any_moment g c clean bs ready db left =
    let mid : IsClean (g.S.Store.view c.collect.new.self.ledger.store) = omega (arith, clean, c.finish.ensures.clean) in
    let same = c.in_ok-taken.ensures.edition in
    rw (c.finish.ensures.waiting, sym same) (lemma.left_by (c.in_ok-taken.ensures.any_moment db)
    (c.in_ok-finish.ensures.any_moment clean bs (rw same (c.in_ok-taken.ensures.ready mid bs ready)) db left))
