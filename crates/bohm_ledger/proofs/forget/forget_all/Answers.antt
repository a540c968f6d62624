use Rattle.std.proofs.Common.{arith, sym, ◌∙◌}
use Rattle.std.proofs.lemmas.Result.{err_from_is_err_and}
use Rattle.sqlite_trees.specs.View.{IsClean}
use Rattle.bohm_ledger.proofs.forget.forget_all.Goals as goal

pub returns-in_err-further-clause-no_ledger : goal.returns-in_err-further-clause-no_ledger
returns-in_err-further-clause-no_ledger g c is clean checkpoint bs low placed kept =
    let before : IsClean (g.S.Store.view c.batches.store) = omega (arith, c.forget_one.ensures.quiet.clean) in
    let p = err_from_is_err_and c.from_residual.result c.from_residual.ensures.1 in
    let told = sym p.1 ∙ is in
    let same = p.2 in
    c.in_err-further.ensures.no_ledger (cc) clean checkpoint bs low placed ((c.batches.invariant.forgets before).kept checkpoint bs low placed kept)
