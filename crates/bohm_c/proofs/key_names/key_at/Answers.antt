use Rattle.std.proofs.Common.{◌∙◌, sym}
use Rattle.bohm_log.specs.Handles.{keys_named}
use Rattle.bohm_c.proofs.Numbered.{shared_key}
use Rattle.bohm_c.proofs.key_names.key_at.Goals as goal

pub returns-in-Some : goal.returns-in-Some
returns-in-Some c =
    c.key.ensures ∙ sym (shared_key c.args.shared.now (keys_named c.args.own.now) _ c.args.number c.in-Some.ensures.some)
