use Rattle.std.proofs.Common.{◌≡◌, length, ◌∙◌, arith}
use Rattle.bohm_board.specs.Passes.{batch_of, view}
use Rattle.bohm_exec.proofs.ForCallers.{counted_whole}
use Rattle.bohm_apply.proofs.Swept.{left_aside, first_of_some}
use Rattle.bohm_apply.proofs.workers.finish_batch.Goals as goal

pub gather-requires-clause-each : goal.gather-requires-clause-each
gather-requires-clause-each g c = λ w d low.
    let jobs = c.in_ok-pass.jobs.items in
    let count : length c.in_ok-swept.swept.items ≡ c.min-workers.result = c.in_ok-swept.ensures.count ∙ c.in_ok-pass.ensures.count in
    let counted = c.in_ok-pass.ensures.count in
    let job = first_of_some jobs (omega (arith, low, count, counted)) in
    let worker = c.in_ok-pass.ensures.workers w job (omega (arith, low, count)) in
    let each = c.in_ok-swept.ensures.each w job d (omega (arith, low, count, counted)) in
    rw count (rw worker at each)

pub complete-requires : goal.complete-requires
complete-requires g c = record {
  aside = rw c.deref.ensures.value (left_aside c.close-closed.result (batch_of c.in_ok-board.board)
      (view c.in_ok-pass-2.pass) c.in_ok-pass-2.asides.items c.close-closed.ensures.batch c.in_ok-pass-2.ensures.all c.close-closed.ensures.done);
  counted = rw c.close-closed.ensures.batch (omega (
    arith,
    c.in_ok-pass-2.ensures.counted,
    counted_whole (length (view c.in_ok-pass-2.pass).finished),
    c.close-closed.ensures.finished,
  ));
}
