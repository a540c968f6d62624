use Rattle.std.proofs.Common.{◌≡◌, ◌∙◌, ◌+◌, ◌<◌, ◌≤◌, ℕ, List, All, length, map, replicate, ap, sym, subst, arith}
use Rattle.std.proofs.lemmas.List.{length-map}
use Rattle.std.proofs.lemmas.Result.{IfOk-weaker}
use Rattle.bohm_place.specs.Chains.{greatest}
use Rattle.bohm_explain.specs.declared.arrow.Arrow.{Arrow}
use Rattle.bohm_explain.specs.Chains.{IsChain, IsChainOf, weight_of}
use Rattle.bohm_explain.specs.Figures.{alike, depths}
use Rattle.bohm_explain.specs.Wanted.{arrows}
use Rattle.bohm_explain.proofs.Chaining.{count_of}
use Rattle.bohm_explain.proofs.Rising.{chainable}
use Rattle.bohm_explain.proofs.longest.longest_chain.Goals as goal

pub heaviest_chain-requires-clause-chainable : goal.heaviest_chain-requires-clause-chainable
heaviest_chain-requires-clause-chainable c =
    let light = subst (λ (ws : List ℕ). All (λ w. w ≤ 3072) ws) (sym c.as_slice.ensures.value) c.in_ok-alike.ensures.light in
    let as_many = ap length c.as_slice.ensures.value ∙ c.in_ok-alike.ensures.paired ∙ c.len.ensures in
    let few_arrows : length c.as_slice-2.result.now ≤ 131072 = omega (arith, ap length c.as_slice-2.ensures.value, c.requires.waits.few_arrows) in
    chainable c.args.txns.now c.as_slice.result.now c.as_slice-2.result.now c.requires.few as_many light
    (c.as_slice-2.ensures.value ∙ c.requires.waits.arrows) few_arrows

pub placed-requires-clause-inside : goal.placed-requires-clause-inside
placed-requires-clause-inside c k d low =
    let n = length c.as_slice.result.now in
    let as_many : n ≡ length c.args.txns.now = ap length c.as_slice.ensures.value ∙ c.in_ok-alike.ensures.paired ∙ c.len.ensures in
    let inside = subst (λ (ps : List ℕ). All (λ p. p < n) ps) (sym c.as_slice-4.ensures.value) c.in_ok-chain.ensures.inside k d low in
    omega (arith, inside, as_many, c.requires.few)

pub returns : goal.returns
returns c = IfOk-weaker c.placed.result _ _ (λ v is.
    let txns = c.args.txns.now in
    let n = length txns in
    let chain = c.in_ok-chain.chain.items in
    let weights = c.as_slice.result.now in
    let as_many : length weights ≡ n = ap length c.as_slice.ensures.value ∙ c.in_ok-alike.ensures.paired ∙ c.len.ensures in
    let same_arrows : c.as_slice-2.result.now ≡ arrows txns = c.as_slice-2.ensures.value ∙ c.requires.waits.arrows in
    let same_weights : weights ≡ alike txns = c.as_slice.ensures.value ∙ c.in_ok-alike.ensures.weights ∙ ap (λ (m : ℕ). replicate m 1) c.len.ensures in
    let of : IsChainOf txns chain = subst (λ (m : ℕ). IsChain m (arrows txns) chain) as_many
    (subst (λ (as' : List Arrow). IsChain (length weights) as' chain) same_arrows c.in_ok-chain.ensures.chain) in
    let weighs : weight_of (alike txns) chain ≡ greatest (depths txns) = ap (λ (ws : List ℕ). weight_of ws chain) (sym same_weights)
    ∙ c.in_ok-chain.ensures.weighs ∙ ap greatest (c.as_slice-3.ensures.value ∙ c.requires.waits.depths) in
    let placed = is ∙ ap (λ (ps : List ℕ). map (λ p. c.args.first + p) ps) c.as_slice-4.ensures.value in
    record {
      chain = chain;
      is = of;
      placed = placed;
      long = ap length placed ∙ length-map chain (λ p. c.args.first + p) ∙ sym (count_of n (arrows txns) chain of) ∙ weighs;
    }) c.placed.ensures
