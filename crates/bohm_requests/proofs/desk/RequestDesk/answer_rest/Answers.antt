use Rattle.std.proofs.Common.{sym, arith}
use Rattle.std.proofs.lemmas.Result.{on_ok_weaker}
use Rattle.sqlite_trees.specs.View.{IsClean}
use Rattle.bohm_requests.proofs.Committing as lemma
use Rattle.bohm_requests.proofs.desk.RequestDesk.answer_rest.Goals as goal

pub returns-clause-stored : goal.returns-clause-stored
returns-clause-stored g c =
    let same = c.in_ok-take.ensures.edition in
    rw (c.finish.ensures.waiting, sym same) (on_ok_weaker c.finish.result (λ stored clean bs ready.
    let mid : IsClean (g.S.Store.view c.take.new.self.ledger.store) = omega (arith, clean, c.finish.ensures.clean) in
    stored clean bs (rw same (c.in_ok-take.ensures.ready mid bs (rw (sym same) ready)))) c.finish.ensures.stored)

pub returns-clause-durable : goal.returns-clause-durable
returns-clause-durable g c =
    let same = c.in_ok-take.ensures.edition in
    rw (c.finish.ensures.waiting, sym same) (on_ok_weaker c.finish.result (λ durable clean bs ready.
    let mid : IsClean (g.S.Store.view c.take.new.self.ledger.store) = omega (arith, clean, c.finish.ensures.clean) in
    durable clean bs (rw same (c.in_ok-take.ensures.ready mid bs (rw (sym same) ready)))) c.finish.ensures.durable)

pub returns-clause-any_moment : goal.returns-clause-any_moment
returns-clause-any_moment g c clean bs ready db left =
    let mid : IsClean (g.S.Store.view c.take.new.self.ledger.store) = omega (arith, clean, c.finish.ensures.clean) in
    let same = c.in_ok-take.ensures.edition in
    rw (c.finish.ensures.waiting, sym same) (lemma.left_by (c.in_ok-take.ensures.any_moment db)
    (c.finish.ensures.any_moment clean bs (rw same (c.in_ok-take.ensures.ready mid bs ready)) db left))
