use Rattle.std.proofs.Common.{true, false, Err, ap, sym, ◌∙◌}
use Rattle.std.proofs.lemmas.Result.{err_from_is_err_and}
use Rattle.bohm_txn.specs.Room.{tables_of}
use Rattle.bohm_txn.proofs.Evaluating.{has_step, lacks_step, not_parts}
use Rattle.bohm_txn.proofs.work.Work.perform.Goals as goal

pub returns-in_err-need-in-Has-clause-outcome : goal.returns-in_err-need-in-Has-clause-outcome
returns-in_err-need-in-Has-clause-outcome c =
    let view = c.environment-seen in
    let said = c.in_err-need-in-Has.ensures in
    let left = c.from_residual-in_err-need-in-Has in
    let p = err_from_is_err_and left.result left.ensures.1 in
    rw p.1 (rw said.0 at (has_step c.args.edition c.args.txn.now c.args.row.now (tables_of c.args.self.now) view.result c.has.result view.ensures.txn
    view.ensures.cells c.has.ensures c.in-Has.is) ∙ ap (λ r. Err r) (sym said.1 ∙ sym p.2))

pub returns-in_err-need-in-Lacks-clause-outcome : goal.returns-in_err-need-in-Lacks-clause-outcome
returns-in_err-need-in-Lacks-clause-outcome c =
    let view = c.environment-seen in
    let said = c.in_err-need-in-Lacks.ensures in
    let left = c.from_residual-in_err-need-in-Lacks in
    let p = err_from_is_err_and left.result left.ensures.1 in
    let is = not_parts c.has-in-Lacks.result false said.0 in
    rw p.1 (rw is at (lacks_step c.args.edition c.args.txn.now c.args.row.now (tables_of c.args.self.now) view.result c.has-in-Lacks.result view.ensures.txn
    view.ensures.cells c.has-in-Lacks.ensures c.in-Lacks.is) ∙ ap (λ r. Err r) (sym said.1 ∙ sym p.2))

pub returns-in_ok-need-in-Has-clause-outcome : goal.returns-in_ok-need-in-Has-clause-outcome
returns-in_ok-need-in-Has-clause-outcome c =
    let view = c.environment-seen in
    rw c.in_ok-need-in-Has.ensures at (has_step c.args.edition c.args.txn.now c.args.row.now
    (tables_of c.args.self.now) view.result c.has.result view.ensures.txn view.ensures.cells c.has.ensures c.in-Has.is)

pub returns-in_ok-need-in-Lacks-clause-outcome : goal.returns-in_ok-need-in-Lacks-clause-outcome
returns-in_ok-need-in-Lacks-clause-outcome c =
    let view = c.environment-seen in
    let is = not_parts c.has-in-Lacks.result true c.in_ok-need-in-Lacks.ensures in
    rw is at (lacks_step c.args.edition c.args.txn.now c.args.row.now
    (tables_of c.args.self.now) view.result c.has-in-Lacks.result view.ensures.txn view.ensures.cells c.has-in-Lacks.ensures c.in-Lacks.is)
