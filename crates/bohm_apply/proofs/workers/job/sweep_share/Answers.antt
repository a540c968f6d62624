use Rattle.std.proofs.Common.{◌≡◌, length, ap, ◌∙◌, All}
use Rattle.std.proofs.lemmas.Result.{IfOk-weaker}
use Rattle.bohm_board.specs.declared.batch.Batch.{Batch}
use Rattle.bohm_board.specs.Batches.{first_of, txns_of}
use Rattle.bohm_board.specs.Passes.{batch_of, view}
use Rattle.bohm_exec.specs.Asides.{IsAccountedFor, positions_in}
use Rattle.bohm_exec.proofs.ForCallers.{counted_then}
use Rattle.bohm_apply.specs.Sweeps.{IsShareSwept}
use Rattle.bohm_apply.proofs.Swept.{inside, inside_again, swept_once, swept_again}
use Rattle.bohm_apply.proofs.workers.job.sweep_share.Goals as goal

pub sweep-requires-clause-inside : goal.sweep-requires-clause-inside
sweep-requires-clause-inside g c κs within =
    let b = batch_of c.args.board.now in
    let from : c.first.result ≡ first_of b = c.first.ensures ∙ ap (λ (z : Batch). first_of z) c.batch-batch.ensures in
    let long : c.len.result ≡ length (txns_of b) = c.len.ensures ∙ ap (λ (z : Batch). length (txns_of z)) c.batch-batch.ensures in
    rw c.deref.ensures.value (inside b c.args.worker c.first.result c.len.result c.in_ok-share.share.items from long c.in_ok-share.ensures)

pub returns-then-is_empty-clause-share : goal.returns-then-is_empty-clause-share
returns-then-is_empty-clause-share g c =
    let b = batch_of c.args.board.now in
    let from : c.first.result ≡ first_of b = c.first.ensures ∙ ap (λ (z : Batch). first_of z) c.batch-batch.ensures in
    let long : c.len.result ≡ length (txns_of b) = c.len.ensures ∙ ap (λ (z : Batch). length (txns_of z)) c.batch-batch.ensures in
    let each = let h = c.in_ok-aside.ensures.each in rw c.deref.ensures.value at h in
    swept_once b c.args.worker (view c.sweep.new.pass) c.in_ok-aside.aside c.first.result c.len.result c.in_ok-share.share.items from long
    c.in_ok-share.ensures each

pub sweep-requires-2-clause-inside : goal.sweep-requires-2-clause-inside
sweep-requires-2-clause-inside g c κs within =
    let b = batch_of c.args.board.now in
    let from : c.first.result ≡ first_of b = c.first.ensures ∙ ap (λ (z : Batch). first_of z) c.batch-batch.ensures in
    let long : c.len.result ≡ length (txns_of b) = c.len.ensures ∙ ap (λ (z : Batch). length (txns_of z)) c.batch-batch.ensures in
    let share = c.in_ok-share.share.items in
    let all = inside b c.args.worker c.first.result c.len.result share from long c.in_ok-share.ensures in
    let picked = let h = c.in_ok-aside.ensures.order in rw c.deref.ensures.value at h in
    rw (c.deref-2.ensures.value, c.in_ok-again.ensures) (inside_again b (positions_in c.in_ok-aside.aside) share picked all)

pub returns-clause-share : goal.returns-clause-share
returns-clause-share g c =
    let b = batch_of c.args.board.now in
    let from : c.first.result ≡ first_of b = c.first.ensures ∙ ap (λ (z : Batch). first_of z) c.batch-batch.ensures in
    let long : c.len.result ≡ length (txns_of b) = c.len.ensures ∙ ap (λ (z : Batch). length (txns_of z)) c.batch-batch.ensures in
    let aside = c.in_ok-aside.aside in
    let old = view c.sweep.new.pass in
    let new = view c.sweep-2.new.pass in
    let each = let h = c.in_ok-aside.ensures.each in rw c.deref.ensures.value at h in
    let once = swept_once b c.args.worker old aside c.first.result c.len.result c.in_ok-share.share.items from long c.in_ok-share.ensures each in
    let again = let h = c.sweep-2.ensures.each in rw (c.deref-2.ensures.value, c.in_ok-again.ensures) at h in
    IfOk-weaker c.sweep-2.result (λ left. All (IsAccountedFor b new left) (positions_in aside)) (IsShareSwept b c.args.worker new)
    (λ left all. swept_again b c.args.worker old new aside left c.sweep-2.ensures.keeps once all) again

pub returns-clause-counted : goal.returns-clause-counted
returns-clause-counted g c = counted_then _ _ _ (view c.args.pass.now) (view c.sweep.new.pass) (view c.sweep-2.new.pass)
    c.in_ok-aside.ensures.counted c.sweep-2.ensures.counted
