use Rattle.std.proofs.Common.{◌≡◌, ◌+◌, ◌++◌, ℕ, take, refl, ◌∙◌, ap}
use Rattle.std.specs.List.{slice_get}
use Rattle.bohm_txn.specs.Faulty.{stmt_faulty}
use Rattle.bohm_check.specs.All.{kinds_told, stmt_told, body_told}
use Rattle.bohm_check.proofs.Lists.{some_there}
use Rattle.bohm_check.proofs.Adding.{added, stmt_added}
use Rattle.bohm_check.proofs.finding.tell_body.Goals as goal

pub loop-index-init : goal.loop-index-init
loop-index-init c = (c.in_ok-scope.ensures, refl)

pub tell_stmt-requires-clause-scope : goal.tell_stmt-requires-clause-scope
tell_stmt-requires-clause-scope c = c.loop-index.invariant.0

pub loop-index-preserved : goal.loop-index-preserved
loop-index-preserved c =
    let t = c.args.txn.now in
    let i = c.loop-index.index in
    let found = some_there
    (λ s. c.tell_stmt.new.told ≡ c.loop-index.told ++ kinds_told c.args.number c.in_ok-counted.field-0 (stmt_faulty t (take i t.body) s)
    (λ kind. c.in_ok-further-2.field-0)) (slice_get t.body i) c.in_ok-tell_stmt.ensures in
    let line : c.in_ok-further-2.field-0 ≡ c.args.opening + 3 + i = c.in_ok-further-2.ensures ∙ ap (λ (n : ℕ). n + i) c.in_ok-further.ensures in (
      c.in_ok-pass.ensures t i c.loop-index.invariant.0 c.stmt.ensures,
      added (stmt_told t c.args.number c.args.opening) t.body i
          (c.args.told.now ++ body_told t c.args.number c.args.opening 0 t.body) found.0 c.loop-index.told c.tell_stmt.new.told found.1
          (stmt_added t c.args.number c.args.opening i found.0 c.in_ok-counted.field-0 c.in_ok-further-2.field-0 c.loop-index.told c.tell_stmt.new.told
          c.in_ok-counted.ensures line found.2) c.loop-index.invariant.1,
    )
