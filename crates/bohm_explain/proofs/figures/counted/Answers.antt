use Rattle.std.proofs.Common.{◌≤◌, ◌∙◌, ℕ, All, List, ap, sym, subst, length}
use Rattle.bohm_explain.proofs.Rising.{chainable}
use Rattle.bohm_explain.proofs.figures.counted.Goals as goal

pub heaviest_to-requires : goal.heaviest_to-requires
heaviest_to-requires c =
    let light = subst (λ (ws : List ℕ). All (λ w. w ≤ 3072) ws) (sym c.as_slice.ensures.value) c.in_ok-weights.ensures.light in
    chainable c.args.txns.now c.as_slice.result.now c.args.arrows.now c.requires.few
    (ap length c.as_slice.ensures.value ∙ c.in_ok-weights.ensures.paired) light c.requires.arrows c.requires.few_arrows
