use Rattle.std.proofs.Common.{◌≡◌, ◌∙◌, ◌<◌, ℕ, ◌+◌, ◌-◌, List, ◌∷◌, ◌++◌, [], true, false, length, slice_index, subst, sym, ap, arith}
use Rattle.bohm_explain.specs.Chains.{EndsAt, IsChain, weight_of}
use Rattle.bohm_explain.specs.Walks.{goes_on}
use Rattle.bohm_explain.proofs.WalkBack.{IsPassed, stepped, walk_ends}
use Rattle.bohm_explain.proofs.walking.chain_to.Goals as goal

pub loop-index-preserved : goal.loop-index-preserved
loop-index-preserved c =
    let weights = c.args.weights.now in
    let arrows = c.args.arrows.now in
    let first = c.loop-index.first in
    let next = c.in_ok-first.first in
    let items = c.loop-index.chain.items in
    let longer = c.step.new.out.items in
    let index = c.loop-index.index in
    let a = c.index-arrows-index.result in
    let there : index - 1 < length arrows = omega arith in
    let back : index - 1 + 1 ≡ index = omega arith in
    let on = subst (λ (hs : List ℕ). goes_on weights hs first a ≡ true → (next ≡ a.from) × (longer ≡ items ++ a.from ∷ []))
    c.requires.heaviest c.in_ok-first.ensures.on in
    let stays = subst (λ (hs : List ℕ). goes_on weights hs first a ≡ false → (next ≡ first) × (longer ≡ items))
    c.requires.heaviest c.in_ok-first.ensures.stays in
    let passed = subst (λ (n : ℕ). IsPassed weights arrows n first) (sym back) c.loop-index.invariant.passed in
    let s = stepped weights arrows c.requires.chainable c.args.end first next items longer (index - 1) a there c.index-arrows-index.is on stays
    c.loop-index.invariant.inside c.loop-index.invariant.walked passed in
    record { inside = s.inside; walked = s.walked; passed = s.passed }

pub returns : goal.returns
returns c =
    let weights = c.args.weights.now in
    let arrows = c.args.arrows.now in
    let last : c.loop-index.index ≡ 0 = omega (arith, c.loop-index-test.false) in
    let passed = subst (λ (n : ℕ). IsPassed weights arrows n c.loop-index.first) last c.loop-index.invariant.passed in
    let h = walk_ends weights arrows c.requires.chainable c.args.end c.loop-index.first c.loop-index.chain.items c.loop-index.invariant.walked passed in
    let turned = c.reverse.ensures.items in
    record {
      chain = subst (IsChain (length weights) arrows) (sym turned) h.0;
      ends = subst (EndsAt c.args.end) (sym turned) h.1;
      weighs = ap (weight_of weights) turned ∙ (h.2 ∙ ap (λ (hs : List ℕ). slice_index hs c.args.end) (sym c.requires.heaviest));
    }
