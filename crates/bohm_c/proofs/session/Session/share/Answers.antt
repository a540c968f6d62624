use Rattle.std.proofs.Common.{◌≡◌, ◌∙◌, Err, ap, arith, length}
use Rattle.bohm_machine.specs.declared.fault.SegmentFault.{SegmentFault}
use Rattle.bohm_machine.specs.declared.fault.SegmentFault.TheVariants.{Store, Timestamps}
use Rattle.bohm_machine.specs.declared.fault.ShareFault.{ShareFault}
use Rattle.bohm_machine.specs.declared.fault.ShareFault.TheVariants.{Segment}
use Rattle.bohm_c.proofs.session.Session.share.Goals as goal

pub unreachable-requires : goal.unreachable-requires
unreachable-requires c =
    let arm = c.in-Err-Segment-Store in
    let is : c.share.result ≡ Err (Segment Store) =
    arm.is ∙ ap (λ (f : ShareFault). Err f) (arm.field-0-is ∙ ap (λ (s : SegmentFault). Segment s) arm.field-0-0-is) in
    let some = c.share.ensures.refused Store is in
    absurd (omega (arith, some, ap length c.share.ensures.store))

pub returns-in-Err-Segment-Timestamps-clause-timestamps : goal.returns-in-Err-Segment-Timestamps-clause-timestamps
returns-in-Err-Segment-Timestamps-clause-timestamps c = λ e.
    let arm = c.in-Err-Segment-Timestamps in
    let is : c.share.result ≡ Err (Segment Timestamps) =
    arm.is ∙ ap (λ (f : ShareFault). Err f) (arm.field-0-is ∙ ap (λ (s : SegmentFault). Segment s) arm.field-0-0-is) in
    c.share.ensures.refused Timestamps is
