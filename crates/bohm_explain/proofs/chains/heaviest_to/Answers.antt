use Rattle.std.proofs.Common.{◌≡◌, ◌∙◌, ◌≤◌, ◌^◌, All, List, ℕ, sym, subst}
use Rattle.std.specs.List.{fold}
use Rattle.std.proofs.lemmas.List.{at_drop_all}
use Rattle.bohm_explain.specs.Heaviest.{heaviest_to}
use Rattle.bohm_explain.proofs.Rules.{light_to}
use Rattle.bohm_explain.proofs.Steps.{lengthened, made_to}
use Rattle.bohm_explain.proofs.chains.heaviest_to.Goals as goal

made : (c : goal.After-loop-arrow) → c.loop-arrow.heaviest.items ≡ heaviest_to c.args.weights.now c.args.arrows.now
made c =
    let weights = c.args.weights.now in
    let arrows = c.args.arrows.now in
    let so_far = c.loop-arrow.heaviest.items in
    let all : so_far ≡ fold (lengthened weights) weights arrows =
    sym (at_drop_all (fold (lengthened weights) so_far) arrows c.loop-arrow.arrow-index c.loop-arrow-test.false) ∙ c.loop-arrow.invariant.chains in
    made_to weights arrows c.requires.rising c.requires.inside so_far c.loop-arrow.invariant.paired all

pub returns-clause-chains : goal.returns-clause-chains
returns-clause-chains = made

pub returns-clause-light : goal.returns-clause-light
returns-clause-light c =
    subst (λ (xs : List ℕ). All (λ x. x ≤ 2 ^ 24) xs) (sym (made c)) (light_to c.args.weights.now c.args.arrows.now c.requires.few c.requires.light)
