use Rattle.bohm_explain.proofs.Rules.{rule_from}
use Rattle.bohm_explain.proofs.laws.chain_from_each.Goals as goal

pub returns : goal.returns
returns c = rule_from
