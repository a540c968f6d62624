use Rattle.bohm_log.proofs.Layers.{none_apart}
use Rattle.bohm_log.proofs.shared_names.SharedNames.as_slice.Goals as goal

pub returns-in-None-clause-apart : goal.returns-in-None-clause-apart
returns-in-None-clause-apart g c = rw (← c.self.view_is, c.in-None.is) none_apart
