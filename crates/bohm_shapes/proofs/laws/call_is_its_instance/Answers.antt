use Rattle.bohm_shapes.proofs.CallLaw.{call_effects}
use Rattle.bohm_shapes.proofs.laws.call_is_its_instance.Goals as goal

pub returns : goal.returns
returns c = call_effects
