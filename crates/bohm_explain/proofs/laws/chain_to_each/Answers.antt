use Rattle.bohm_explain.proofs.Rules.{rule_to}
use Rattle.bohm_explain.proofs.laws.chain_to_each.Goals as goal

pub returns : goal.returns
returns c = rule_to
