use Rattle.std.proofs.Common.{arith, sym, ◌∙◌}
use Rattle.std.proofs.lemmas.Result.{err_from_is_err_and}
use Rattle.bohm_ledger.proofs.Placing.{kept}
use Rattle.bohm_ledger.proofs.Ready as lemma
use Rattle.bohm_ledger.proofs.ledger.Ledger.forget_before.Goals as goal

pub returns-in_err-forget-clause-any_moment : goal.returns-in_err-forget-clause-any_moment
returns-in_err-forget-clause-any_moment g c clean bs ready db left =
    let old = g.S.Store.view c.args.self.now.store in
    lemma.less_outcome _ _ _ old _ _ _ _ ready db c.min-bound.result _ (omega (arith, c.min-bound.ensures))
    (λ before. g.met.S.Store.settled c.args.self.now.store db (lemma.open_of old (g.met.S.Store.broken_if_shut c.args.self.now.store) ready.sound) before)
    (c.forget.ensures.crash clean db left)

pub returns-clause-any_moment : goal.returns-clause-any_moment
returns-clause-any_moment g c clean bs ready db left =
    let old = g.S.Store.view c.args.self.now.store in
    lemma.less_outcome _ _ _ old _ _ _ _ ready db c.min-bound.result _ (omega (arith, c.min-bound.ensures))
    (λ before. g.met.S.Store.settled c.args.self.now.store db (lemma.open_of old (g.met.S.Store.broken_if_shut c.args.self.now.store) ready.sound) before)
    (c.forget.ensures.crash clean db left)

pub returns-clause-ready : goal.returns-clause-ready
returns-clause-ready g c clean bs ready =
    lemma.less_ready _ _ _ _ _ _ _ _ ready _ c.min-bound.result (omega (arith, c.min-bound.ensures)) (c.in_ok-forget.ensures.ok clean)
    (c.in_ok-forget.ensures.stored clean)

pub returns-in_err-forget-clause-unchanged : goal.returns-in_err-forget-clause-unchanged
returns-in_err-forget-clause-unchanged g c =
    let p = err_from_is_err_and c.from_residual.result c.from_residual.ensures.1 in
    rw p.1 (λ clean is_open bs ready. lemma.undone _ _ _ _ _ _ _ _ ready _ (c.in_err-forget.ensures.err clean is_open))

pub returns-in_err-forget-clause-no_ledger : goal.returns-in_err-forget-clause-no_ledger
returns-in_err-forget-clause-no_ledger g c is clean bs ready =
    let p = err_from_is_err_and c.from_residual.result c.from_residual.ensures.1 in
    let told = sym p.1 ∙ is in
    let same = p.2 in
    c.in_err-forget.ensures.no_ledger (cc) clean c.args.self.now.checkpoint bs (omega (arith, c.min-bound.ensures)) ready.placed
    (kept _ _ _ _ _ _ _ _ ready)
