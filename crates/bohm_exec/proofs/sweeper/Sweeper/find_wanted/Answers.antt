use Rattle.std.proofs.Common.{refl, sym, ap, ◌∙◌, subst}
use Rattle.std.specs.Borrow.{Bor}
use Rattle.bohm_board.specs.declared.board.Board.{Board}
use Rattle.bohm_board.specs.Passes.{batch_of, view}
use Rattle.bohm_board.proofs.ForCallers.{knows_on}
use Rattle.bohm_board.specs.declared.batch.Batch.{Batch}
use Rattle.bohm_board.specs.Batches.{reads_at, writes_at, is_sure_at}
use Rattle.bohm_exec.specs.Handed.{KnowsAll}
use Rattle.bohm_exec.proofs.Steppers.{looks_then}
use Rattle.bohm_exec.proofs.Viewed.{reads_wanted, writes_wanted, knows_wanted, knows_later}
use Rattle.bohm_exec.proofs.sweeper.Sweeper.find_wanted.Goals as goal

pub find-requires-clause-wanted : goal.find-requires-clause-wanted
find-requires-clause-wanted g c = reads_wanted (batch_of c.args.self.now.stepper.board.now) c.args.t

pub find-requires-else-evaluator-clause-wanted : goal.find-requires-else-evaluator-clause-wanted
find-requires-else-evaluator-clause-wanted g c =
    let b = batch_of c.find.new.self.board.now in
    writes_wanted b c.args.t (sym (c.sure-evaluator.ensures ∙ ap (λ (z : Batch). is_sure_at z c.args.t) c.batch.ensures) ∙ c.if-evaluator.false)

pub returns-else-evaluator-clause-looks : goal.returns-else-evaluator-clause-looks
returns-else-evaluator-clause-looks g c = looks_then c.args.self.now.stepper c.find.new.self c.find-else-evaluator.new.self c.find.ensures.looks
    c.find-else-evaluator.ensures.looks

pub returns-else-evaluator-clause-known : goal.returns-else-evaluator-clause-known
returns-else-evaluator-clause-known g c = λ none.
    let b = batch_of c.args.self.now.stepper.board.now in
    let v = view c.find.new.self.pass.now in
    let w = view c.find-else-evaluator.new.self.pass.now in
    let writes = subst (λ (z : Bor Board). KnowsAll (batch_of z.now) w (writes_at (batch_of z.now) c.args.t)) c.find.ensures.looks.same.board
    (c.find-else-evaluator.ensures.known none) in
    knows_wanted b w c.args.t (knows_later b v w (reads_at b c.args.t) (λ k. knows_on v w k c.find-else-evaluator.ensures.looks.view.keeps)
    (c.in-None.ensures.known refl)) (λ _. writes)
