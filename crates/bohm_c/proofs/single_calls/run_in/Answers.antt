use Rattle.std.proofs.Common.{◌≡◌, ◌∙◌, ◌++◌, ◌∷◌, [], Err, ap, arith, length}
use Rattle.bohm_types.specs.Document.{Document}
use Rattle.bohm_types.specs.Procedure.{instance}
use Rattle.bohm_log.specs.Handles.{keys_named}
use Rattle.bohm_machine.specs.declared.fault.BatchFault.{BatchFault}
use Rattle.bohm_machine.specs.declared.fault.BatchFault.TheVariants.{Segment}
use Rattle.bohm_machine.specs.declared.fault.SegmentFault.{SegmentFault}
use Rattle.bohm_machine.specs.declared.fault.SegmentFault.TheVariants.{Store, Timestamps}
use Rattle.bohm_c.proofs.single_calls.run_in.Goals as goal

pub unreachable-requires : goal.unreachable-requires
unreachable-requires c =
    let arm = c.in-Err-Segment-Store in
    let is : c.run_batch.result ≡ Err (Segment Store) =
    arm.is ∙ ap (λ (b : BatchFault). Err b) (arm.field-0-is ∙ ap (λ (s : SegmentFault). Segment s) arm.field-0-0-is) in
    let some = c.run_batch.ensures.refused Store is in
    let none : length (c.push_named.new.self).store ≡ 0 =
    ap (λ (d : Document). length d.store) c.in_ok-push_named.ensures.ok ∙ ap (λ (d : Document). length d.store) c.clear.ensures in
    absurd (omega (arith, some, none))

pub returns-in-Err-Segment-Timestamps-clause-timestamps : goal.returns-in-Err-Segment-Timestamps-clause-timestamps
returns-in-Err-Segment-Timestamps-clause-timestamps c = λ e.
    let arm = c.in-Err-Segment-Timestamps in
    let is : c.run_batch.result ≡ Err (Segment Timestamps) =
    arm.is ∙ ap (λ (b : BatchFault). Err b) (arm.field-0-is ∙ ap (λ (s : SegmentFault). Segment s) arm.field-0-0-is) in
    let refused = c.run_batch.ensures.refused Timestamps is in
    let call = instance c.args.procedure.now (keys_named c.args.keys.now) c.args.values.now in
    let one : length (c.push_named.new.self).log ≡ 1 =
    ap (λ (d : Document). length d.log) c.in_ok-push_named.ensures.ok ∙ ap (λ (d : Document). length (d.log ++ call ∷ [])) c.clear.ensures in
    omega (arith, refused.1, one)
