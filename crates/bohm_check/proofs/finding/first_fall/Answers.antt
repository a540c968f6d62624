use Rattle.std.proofs.Common.{◌≡◌, ◌+◌, ◌-◌, ℕ, suc, length, drop, sym, subst, ◌∙◌, ap, arith}
use Rattle.std.specs.Prelude.{if◌then◌else◌}
use Rattle.std.proofs.lemmas.List.{length-map}
use Rattle.bohm_types.specs.Keys.{names_of}
use Rattle.bohm_txn.proofs.ForCallers.{falls, climbs}
use Rattle.bohm_check.specs.Lines.{first_fall}
use Rattle.bohm_check.proofs.Falling.{fall_at, last_falls}
use Rattle.bohm_check.proofs.finding.first_fall.Goals as goal

pub returns-then-ge : goal.returns-then-ge
returns-then-ge c =
    let names = names_of c.args.store.now in
    let at = fall_at names c.loop-index.index c.key_at.result.now c.key_at-in-loop-index.result.now c.loop-index.auto.index c.key_at.ensures
    c.key_at-in-loop-index.ensures in
    let one : first_fall (drop (c.loop-index.index - 1) names) ≡ 1 =
    at ∙ ap (λ b. suc (if b then first_fall (drop c.loop-index.index names) else 0)) (falls _ (sym c.ge.ensures ∙ c.if-ge.true)) in
    omega (arith, one, c.loop-index.invariant.0, c.loop-index.auto.index)

pub loop-index-preserved : goal.loop-index-preserved
loop-index-preserved c =
    let names = names_of c.args.store.now in
    let at = fall_at names c.loop-index.index c.key_at.result.now c.key_at-in-loop-index.result.now c.loop-index.auto.index c.key_at.ensures
    c.key_at-in-loop-index.ensures in
    let more : first_fall (drop (c.loop-index.index - 1) names) ≡ suc (first_fall (drop c.loop-index.index names)) =
    at ∙ ap (λ b. suc (if b then first_fall (drop c.loop-index.index names) else 0)) (climbs _ (sym c.ge.ensures ∙ c.if-ge.false)) in
    let back : c.loop-index.index ≡ c.loop-index.index + 1 - 1 = omega arith in (
      subst (λ (n : ℕ). first_fall (drop n names) + n ≡ first_fall names) back (omega (arith, more, c.loop-index.invariant.0, c.loop-index.auto.index)),
      omega (arith, c.loop-index-test.true),
    )

pub returns : goal.returns
returns c =
    let names = names_of c.args.store.now in
    let size : length names ≡ length c.args.store.now = length-map c.args.store.now (λ e. e.0) in
    let last = last_falls names c.loop-index.index (omega (arith, size, c.loop-index-test.false)) in
    omega (arith, last, size, c.loop-index.invariant.0, c.loop-index.invariant.1, c.loop-index-test.false)
