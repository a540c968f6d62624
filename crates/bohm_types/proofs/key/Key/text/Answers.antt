use Rattle.std.proofs.Common.{ap, ◌∙◌}
use Rattle.bohm_types.specs.Name.{is_name}
use Rattle.bohm_types.proofs.Sizes.{text}
use Rattle.bohm_types.proofs.Words.{is_a_name}
use Rattle.bohm_types.proofs.key.Key.text.Goals as goal

pub returns-clause-same : goal.returns-clause-same
returns-clause-same c =
    text c.self.inside c.self.invariant c.spread.result c.size_of.result c.spread.ensures
    (c.size_of.ensures.size c.self.invariant.name c.self.invariant.is c.self.invariant.made)
    ∙ c.self.view_is

pub returns-clause-name : goal.returns-clause-name
returns-clause-name c =
    ap is_name (text c.self.inside c.self.invariant c.spread.result c.size_of.result c.spread.ensures
    (c.size_of.ensures.size c.self.invariant.name c.self.invariant.is c.self.invariant.made))
    ∙ is_a_name c.self.inside c.self.invariant
