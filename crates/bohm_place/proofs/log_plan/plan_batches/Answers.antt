use Rattle.std.proofs.Common.{◌≡◌, ◌+◌, ◌∷◌, [], length, length-append, ap, sym, arith}
use Rattle.bohm_place.specs.CutLogs.{cutting_of}
use Rattle.bohm_place.specs.Cuttings.{IsPlanAt}
use Rattle.bohm_place.proofs.Plans.{plan_more}
use Rattle.bohm_place.proofs.log_plan.plan_batches.Goals as goal

pub loop-place-preserved : goal.loop-place-preserved
loop-place-preserved g c =
    let was = c.loop-place.invariant in
    let log = cutting_of c.args.log in
    let plans = c.loop-place.plans.items in
    let q = c.in_ok-next.plan in
    let made = c.in_ok-next.ensures.planned in
    let txns = c.batch-txns.ensures in
    let here : IsPlanAt log c.loop-place.place q = record {
      first = omega (arith, made.first, c.first.ensures, was.start);
      right = rw (sym txns.txns) (∣ made.right ∣₁);
    } in
    let last : IsPlanAt log (length plans) q = rw was.count here in
    let bound : (c.first.result + c.loop-place.start) + length c.batch-txns.result ≡ log.first + (c.loop-place.start + c.len-start.result) =
    omega (arith, c.first.ensures, c.len-start.ensures) in
    record {
      start = omega (arith, c.len-start.ensures, txns.ahead);
      count = omega (arith, ap length c.in_ok-push.ensures.items, length-append plans (q ∷ []), was.count);
      each = rw c.in_ok-push.ensures.items (plan_more (IsPlanAt log) plans q was.each last);
      workers = omega (arith, c.in_ok-next.ensures.arrays, was.workers);
      earlier = let below = c.in_ok-next.ensures.below in rw bound at below;
    }
