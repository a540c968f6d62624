use Rattle.std.proofs.Common.{◌∙◌, ap, sym}
use Rattle.bohm_types.specs.Document.{Document}
use Rattle.bohm_types.specs.Procedure.{instance}
use Rattle.bohm_log.proofs.Appending.{stays_in}
use Rattle.bohm_log.specs.Handles.{keys_named}
use Rattle.bohm_log.proofs.doc.Doc.push_call.Goals as goal

pub invariant_of-self : goal.invariant_of-self
invariant_of-self c = (
  stays_in c.push_call.result c.self.inside.edition c.self.inside.log c.push_call.new.self
      (instance c.args.template.now (keys_named c.args.keys.now) c.args.values.now) c.push_call.ensures.ok c.push_call.ensures.err
      (c.requires.edition ∙ sym (ap (λ (d : Document). d.edition) c.self.view_is)) c.self.invariant.0,
  c.self.invariant.1,
)
