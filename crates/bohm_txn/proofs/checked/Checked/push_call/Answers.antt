use Rattle.std.proofs.Common.{length, ap, arith}
use Rattle.bohm_types.specs.Document.{Document}
use Rattle.bohm_types.specs.Procedure.{instance}
use Rattle.bohm_log.specs.Handles.{keys_named}
use Rattle.bohm_txn.proofs.Appending.{stays_well}
use Rattle.bohm_txn.proofs.checked.Checked.push_call.Goals as goal

pub invariant_of-self : goal.invariant_of-self
invariant_of-self c =
    stays_well c.push_call.result c.self.inside.doc c.push_call.new.self
    (instance c.args.template.now (keys_named c.args.keys.now) c.args.values.now) c.push_call.ensures.ok c.push_call.ensures.err
    c.self.invariant c.requires.well_formed
    (omega (arith, c.requires.few, ap (λ (d : Document). length d.log) c.self.view_is))
