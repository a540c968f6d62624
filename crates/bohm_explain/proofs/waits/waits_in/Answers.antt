use Rattle.std.proofs.Common.{◌≤◌, ◌∙◌, ℕ, All, List, length, ap, sym, subst, arith}
use Rattle.bohm_explain.proofs.Rising.{chainable}
use Rattle.bohm_explain.proofs.waits.waits_in.Goals as goal

pub heaviest_to-requires : goal.heaviest_to-requires
heaviest_to-requires c =
    let light = subst (λ (ws : List ℕ). All (λ w. w ≤ 3072) ws) (sym c.as_slice.ensures.value) c.in_ok-alike.ensures.light in
    let few_arrows : length c.as_slice-2.result.now ≤ 131072 =
    omega (arith, ap length c.as_slice-2.ensures.value, c.in_ok-arrows.ensures.few, c.requires.few) in
    chainable c.args.txns.now c.as_slice.result.now c.as_slice-2.result.now c.requires.few
    (ap length c.as_slice.ensures.value ∙ c.in_ok-alike.ensures.paired ∙ c.len.ensures) light
    (c.as_slice-2.ensures.value ∙ c.in_ok-arrows.ensures.arrows) few_arrows

pub heaviest_from-requires : goal.heaviest_from-requires
heaviest_from-requires c =
    let light = subst (λ (ws : List ℕ). All (λ w. w ≤ 3072) ws) (sym c.as_slice-3.ensures.value) c.in_ok-alike.ensures.light in
    let few_arrows : length c.as_slice-4.result.now ≤ 131072 =
    omega (arith, ap length c.as_slice-4.ensures.value, c.in_ok-arrows.ensures.few, c.requires.few) in
    chainable c.args.txns.now c.as_slice-3.result.now c.as_slice-4.result.now c.requires.few
    (ap length c.as_slice-3.ensures.value ∙ c.in_ok-alike.ensures.paired ∙ c.len.ensures) light
    (c.as_slice-4.ensures.value ∙ c.in_ok-arrows.ensures.arrows) few_arrows
