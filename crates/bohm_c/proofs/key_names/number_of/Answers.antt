use Rattle.bohm_log.specs.Handles.{keys_named}
use Rattle.bohm_c.proofs.Numbered.{found_key, added_grows}
use Rattle.bohm_c.proofs.key_names.number_of.Goals as goal

pub returns-in-Some-clause-key : goal.returns-in-Some-clause-key
returns-in-Some-clause-key c = found_key c.args.shared.now (keys_named c.args.own.now.items) c.args.key.now c.in-Some.number c.in-Some.ensures

pub returns-clause-grows : goal.returns-clause-grows
returns-clause-grows c = added_grows _ _ _ _ c.in_ok-number.ensures.ok
