use Rattle.std.proofs.Common.{◌≡◌, ℕ, List, Some, subst, slice_get}
use Rattle.bohm_log.specs.Columns.{shared_of}
use Rattle.bohm_log.proofs.Failing.{on_err}
use Rattle.bohm_log.proofs.Widening.{interns_itself, named, numbered}
use Rattle.bohm_log.proofs.columns.Columns.add_name.Goals as goal

pub returns-in_err-id-clause-err : goal.returns-in_err-id-clause-err
returns-in_err-id-clause-err g c =
    let s = shared_of c.args.self.now in
    on_err _ (interns_itself s (record s { names = c.number_of.new.names }) (λ i. record s { names = c.in_err-id.ensures.err i }))

pub returns-in_err-push-clause-err : goal.returns-in_err-push-clause-err
returns-in_err-push-clause-err g c =
    let s = shared_of c.args.self.now in
    on_err _ (named s _ c.args.name.now (λ i. record s { names = c.in_ok-id.ensures.names i; ids = c.in_err-push.ensures.items i }))

pub returns-clause-ok : goal.returns-clause-ok
returns-clause-ok g c =
    let s = shared_of c.args.self.now in
    numbered s _ c.args.name.now c.in_ok-id.id (subst
    (λ (ns : List (List ℕ)). slice_get ns c.in_ok-id.id ≡ Some c.args.name.now) c.in_ok-id.ensures.names c.in_ok-id.ensures.named)
    (λ i. record s { names = c.in_ok-id.ensures.names i; ids = c.in_ok-push.ensures.items i })
