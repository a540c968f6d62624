use Rattle.std.proofs.Common.{◌≡◌, ◌∙◌, sym, ap, length}
use Rattle.bohm_types.specs.Procedure.{Procedure}
use Rattle.bohm_log.specs.Handles.{keys_named}
use Rattle.bohm_procedures.proofs.InstanceLaw.{instance_well}
use Rattle.bohm_procedures.proofs.calls.Calls.push_named.Goals as goal

pub push_call-requires-clause-well_formed : goal.push_call-requires-clause-well_formed
push_call-requires-clause-well_formed c =
    let count : length c.args.values.now ≡ length c.template-template.result.now.values =
    c.requires.values ∙ ap (λ (p : Procedure). length p.values) (sym c.template-template.ensures.same) in
    instance_well c.template-template.result.now (keys_named c.args.keys.now) c.args.values.now c.template-template.ensures.accepted count
