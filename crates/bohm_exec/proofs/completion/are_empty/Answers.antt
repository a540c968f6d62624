use Rattle.std.proofs.Common.{◌≡◌, ◌<◌, ◌≤◌, ◌==◌, ◌∙◌, [], ℕ, true, length, get_or, sym, ap, subst, ⊎_elim, arith}
use Rattle.std.proofs.lemmas.Bool.{cases_lt}
use Rattle.std.proofs.lemmas.Bool.Decides.{nat_tests}
use Rattle.std.proofs.lemmas.List.{get_or_read, nil_from_length}
use Rattle.bohm_exec.specs.Asides.{Pairs, positions_in}
use Rattle.bohm_exec.proofs.completion.are_empty.Goals as goal

pub loop-aside-preserved : goal.loop-aside-preserved
loop-aside-preserved c i d lt =
    let at = c.loop-aside.aside-index in
    let item : Pairs = c.aside-item.result in
    let tested : true ≡ (length c.pairs.result.now == 0) = c.if-not-is_empty.ensures in
    let zero : length c.pairs.result.now ≡ 0 = grind (arith, nat_tests) in
    let none : item ≡ [] = nil_from_length item (sym (ap length c.pairs.ensures) ∙ zero) in
    ⊎_elim
    (λ (low : i < at). c.loop-aside.invariant i d low)
    (λ (high : at ≤ i).
    let same : i ≡ at = omega (arith, lt, high) in
    ap (λ (j : ℕ). get_or c.args.asides.now j d) same
    ∙ (sym (get_or_read c.args.asides.now at item c.loop-aside-test.true c.aside-item.is d) ∙ none))
    (cases_lt i at)

pub returns : goal.returns
returns c _ t set =
    let (pairs, (i, low, here), (j, inside, at)) = set in
    let none : pairs ≡ [] = sym here ∙ c.loop-aside.invariant i pairs (omega (arith, low, c.loop-aside-test.false)) in
    let nowhere = subst (λ (ps : Pairs). j < length (positions_in ps)) none inside in
    absurd (omega (arith, nowhere))
