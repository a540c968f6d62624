use Rattle.bohm_place.proofs.Swaps.{Mixed}
use Rattle.bohm_place.proofs.deal.swap_parts.Given as goal

abbrev pub invariant-loop-p : goal.invariant-loop-p
invariant-loop-p g l =
    let n = l.worker.count in
    let w = l.worker.number in
    Mixed n w l.p l.a l.initial.a l.initial.b × Mixed n w l.p l.b l.initial.b l.initial.a
