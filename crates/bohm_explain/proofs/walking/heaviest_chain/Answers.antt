use Rattle.std.proofs.Common.{◌∙◌}
use Rattle.std.proofs.lemmas.Result.{IfOk-weaker}
use Rattle.bohm_explain.proofs.WalkBack.{all_inside}
use Rattle.bohm_explain.proofs.walking.heaviest_chain.Goals as goal

pub returns : goal.returns
returns c = record {
  chain = c.chain_to.ensures.chain;
  inside = IfOk-weaker c.chain_to.result _ _ (λ v is. all_inside c.args.weights.now c.args.arrows.now v.items is) c.chain_to.ensures.chain;
  weighs = IfOk-weaker c.chain_to.result _ _ (λ v is. is ∙ c.heaviest_end.ensures.greatest) c.chain_to.ensures.weighs;
}
