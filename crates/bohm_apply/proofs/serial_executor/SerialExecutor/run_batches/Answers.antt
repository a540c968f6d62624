use Rattle.std.proofs.Common.{rules, ◌≡◌, is_ok, sym, take, false, true}
use Rattle.bohm_place.specs.CutLogs.{cutting_of}
use Rattle.bohm_apply.proofs.Going.{stayed_past}
use Rattle.bohm_apply.proofs.Walks.{walked_on, walk_ends}
use Rattle.bohm_apply.proofs.serial_executor.SerialExecutor.run_batches.Goals as goal

pub returns-in_err-run_batch : goal.returns-in_err-run_batch
returns-in_err-run_batch c =
    let at = c.loop-place in
    let was = c.args.history.now in
    let log = cutting_of c.args.log in
    let refused : is_ok c.from_residual.result ≡ false = search rules in
    let told = c.in_err-run_batch.ensures in
    let on = stayed_past was at.history c.run_batch.new.history
    (take at.start log.log) c.args.keep at.answered c.requires.ordered told.same at.invariant.applied in
    rw refused (walk_ends was c.run_batch.new.history log at.place at.start c.args.keep c.run_batch.new.answered false
    c.args.log.whole at.invariant.start (λ t. absurd cc) (rw told.unanswered on))

pub loop-place-preserved : goal.loop-place-preserved
loop-place-preserved c =
    let at = c.loop-place in
    let was = c.args.history.now in
    let log = cutting_of c.args.log in
    let next = c.batch-txns.ensures in
    let done = c.in_ok-run_batch.ensures in
    let on = walked_on was at.history c.run_batch.new.history log at.place at.start c.args.keep at.answered c.batch-txns.result
    c.requires.ordered (search rules) at.invariant.start next.txns next.ahead at.invariant.applied done.applied in
    rw c.len-start.ensures (record { start = sym next.ahead; applied = rw done.answered on })

pub returns : goal.returns
returns c =
    let at = c.loop-place in
    walk_ends c.args.history.now at.history (cutting_of c.args.log) at.place at.start c.args.keep at.answered true
    c.args.log.whole at.invariant.start (λ t. search rules) at.invariant.applied
