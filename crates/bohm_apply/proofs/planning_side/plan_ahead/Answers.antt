use Rattle.std.proofs.Common.{arith, ◌≡◌, ◌+◌, ◌∷◌, [], length, length-append, ap, ◌∙◌, sym, All, IsSome, Some, refl}
use Rattle.std.proofs.lemmas.List.Elements.{All-append, All-cons}
use Rattle.bohm_place.specs.CutLogs.{cutting_of}
use Rattle.bohm_apply.specs.declared.plan_queue.note.PlanNote.{PlanNote}
use Rattle.bohm_apply.proofs.planning_side.plan_ahead.Goals as goal

pub loop-place-preserved : goal.loop-place-preserved
loop-place-preserved g c =
    let inv = c.loop-place.invariant in
    let txns = c.batch-txns.result in
    let first = (cutting_of c.args.log).first in
    let note : PlanNote = record { number = c.loop-place.place + 1; plan = Some c.in-Ok.plan } in
    let is_there : All (λ (x : PlanNote). IsSome x.plan) (note ∷ []) =
    All-cons (λ (x : PlanNote). IsSome x.plan) note [] refl (λ k d h. absurd (omega arith)) in
    let bound : (c.first.result + c.loop-place.start) + length txns ≡ first + (c.loop-place.start + c.len-start.result) =
    omega (arith, c.first.ensures, c.len-start.ensures) in
    record {
      start = ap (λ n. c.loop-place.start + n) c.len-start.ensures ∙ sym c.batch-txns.ensures.ahead;
      queue = c.send-in-loop-place.ensures.queue ∙ inv.queue;
      sent = omega (arith, inv.sent, ap length c.send-in-loop-place.ensures.sent, length-append c.loop-place.sender.notes (note ∷ []));
      open_ = rw c.send-in-loop-place.ensures.sent (All-append (λ (x : PlanNote). IsSome x.plan) c.loop-place.sender.notes (note ∷ []) inv.open_ is_there);
      workers = omega (arith, c.in-Ok.ensures.arrays, inv.workers);
      earlier = let below = c.in-Ok.ensures.below in rw bound at below;
    }
