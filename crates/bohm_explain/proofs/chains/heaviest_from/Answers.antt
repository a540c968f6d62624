use Rattle.std.proofs.Common.{◌≡◌, ℕ, List, All, ◌+◌, ◌-◌, ◌*◌, ◌^◌, ◌<◌, ◌≤◌, ◌∙◌, length, drop, max, get_or, subst, sym, ap, arith, length-set}
use Rattle.std.proofs.lemmas.List.{get_or_read}
use Rattle.bohm_txn.proofs.ForCallers.{front}
use Rattle.bohm_explain.specs.Heaviest.{IsInside, heaviest_from}
use Rattle.bohm_explain.proofs.Rules.{light_from}
use Rattle.bohm_explain.proofs.Steps.{led_from, bounded_set, one_before, made_from}
use Rattle.bohm_explain.proofs.chains.heaviest_from.Goals as goal

pub loop-index-preserved : goal.loop-index-preserved
loop-index-preserved c =
    let index = c.loop-index.index in
    let arrows = c.args.arrows.now in
    let a = c.index-arrows-index.result in
    let hs = c.loop-index.heaviest.items in
    let w = c.args.weights.now in
    let there : index - 1 < length arrows = omega arith in
    let back : index - 1 + 1 ≡ index = omega arith in
    let first = rw back at (front arrows (index - 1) a there c.index-arrows-index.is) in
    let inside = subst (IsInside (length w)) (sym c.index-arrows-index.is) (c.requires.inside (index - 1) a there) in
    let paired = c.loop-index.invariant.paired in
    let to_in : a.to < length hs = omega (arith, inside.1) in
    let from_in : a.from < length hs = omega (arith, inside.0) in
    let at_to : c.index.result.now ≡ get_or hs a.to 0 = get_or_read hs a.to c.index.result.now to_in c.index.ensures 0 in
    let at_from : c.index-in-loop-index.result.now ≡ get_or hs a.from 0 =
    get_or_read hs a.from c.index-in-loop-index.result.now from_in c.index-in-loop-index.ensures 0 in
    let value : c.max.result ≡ max (get_or hs a.from 0) (get_or w a.from 0 + get_or hs a.to 0) = rw (← at_from, ← at_to) c.max.ensures in
    let light_from = c.loop-index.invariant.light a.from in
    let light_to = c.loop-index.invariant.light a.to in
    let light = c.requires.light a.from 0 inside.0 in
    let wide : 3072 * ((length arrows - index) + 1) + 3072 ≡ 3072 * ((length arrows - (index - 1)) + 1) = omega arith in
    record {
      paired = omega (arith, length-set hs a.from c.max.result);
      chains = one_before w hs (drop (index - 1) arrows) (drop index arrows) a c.max.result first c.loop-index.invariant.chains value;
      light = λ k. bounded_set hs a.from c.max.result (3072 * ((length arrows - (index - 1)) + 1)) k
          (λ j. let h = c.loop-index.invariant.light j in omega (arith, wide)) (omega (arith, wide, value));
    }

made : (c : goal.After-loop-index) → c.loop-index.heaviest.items ≡ heaviest_from c.args.weights.now c.args.arrows.now
made c =
    let weights = c.args.weights.now in
    let arrows = c.args.arrows.now in
    let start : c.loop-index.index ≡ 0 = omega (arith, c.loop-index-test.false) in
    c.loop-index.invariant.chains ∙ (ap (λ (n : ℕ). led_from weights (drop n arrows)) start ∙ made_from weights arrows c.requires.rising c.requires.inside)

pub returns-clause-chains : goal.returns-clause-chains
returns-clause-chains = made

pub returns-clause-light : goal.returns-clause-light
returns-clause-light c =
    subst (λ (xs : List ℕ). All (λ x. x ≤ 2 ^ 24) xs) (sym (made c)) (light_from c.args.weights.now c.args.arrows.now c.requires.few c.requires.light)
