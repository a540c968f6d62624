use Rattle.std.proofs.Common.{ap, sym, ◌∙◌}
use Rattle.bohm_types.specs.Name.{is_name}
use Rattle.bohm_types.proofs.Words.{is_a_name}
use Rattle.bohm_types.proofs.key.Key.has_name.Goals as goal

pub returns : goal.returns
returns c = ap is_name (sym c.self.view_is) ∙ is_a_name c.self.inside c.self.invariant
