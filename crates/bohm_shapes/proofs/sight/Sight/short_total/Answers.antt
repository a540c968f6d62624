use Rattle.std.proofs.Common.{◌≡◌, ℤ, ◌+◌, drop, get_or, ap, sym, ◌∙◌, arith, Some}
use Rattle.std.specs.Prelude.{pos}
use Rattle.std.proofs.lemmas.Int.{to_z-of_z, ints}
use Rattle.std.proofs.lemmas.Option.{slice_get-get_or}
use Rattle.bohm_txn.specs.Meaning.{signed}
use Rattle.bohm_txn.proofs.ForCallers.{drop_at, total_step}
use Rattle.bohm_shapes.specs.declared.shape.Term.{Term}
use Rattle.bohm_shapes.specs.declared.shape.Term.TheVariants.{Number}
use Rattle.bohm_shapes.specs.Filled.{is_minus}
use Rattle.bohm_shapes.specs.Seeing.{locals_of, look_of, sum_seen, term_seen}
use Rattle.bohm_shapes.proofs.sight.Sight.short_total.Goals as goal
use mir.Syntax.{w64}
use mir.Val.{to_z, of_z}

pub loop-term-preserved : goal.loop-term-preserved
loop-term-preserved c =
    let sight = c.args.self.now in
    let ts = c.args.terms.now in
    let i = c.loop-term.term-index in
    let none : Term = Number (pos 0) in
    let term = get_or ts i none in
    let before : ℤ = to_z w64 c.loop-term.total-bits in
    let made : ℤ = c.signed-total.result in
    let same : to_z w64 (of_z w64 made) ≡ made = to_z-of_z w64 made (record { sfits = c.signed-total.type_inv }) in
    let number : ℤ = c.number_or_least-number.result in
    let exact : to_z w64 (of_z w64 number) ≡ number = to_z-of_z w64 number (record { sfits = c.number_or_least-number.type_inv }) in
    let value = c.number_or_least-number.ensures (omega (arith, ints, exact, c.if-number.false)) before
    ∙ ap Some (ap (signed before (is_minus term)) (sym exact) ∙ (λ i. signed before (sym c.is_minus.ensures i) (to_z w64 (of_z w64 number)))
    ∙ sym c.signed-total.ensures.value) in
    let left = ap (sum_seen sight) (drop_at ts i term (slice_get-get_or ts i none c.loop-term-test.true)) in
    let step = total_step (look_of sight) (locals_of sight) _ (sum_seen sight (drop (i + 1) ts)) (term_seen sight term) before made left value in
    record {
      low = rw same (omega (arith, ints, c.signed-total.ensures.low, c.loop-term.invariant.low));
      high = rw same (omega (arith, ints, c.signed-total.ensures.high, c.loop-term.invariant.high));
      so_far = rw same (sym step ∙ c.loop-term.invariant.so_far);
    }
