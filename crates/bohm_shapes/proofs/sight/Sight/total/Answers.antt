use Rattle.std.proofs.Common.{◌≡◌, ℤ, ◌+◌, drop, get_or, ap, sym, ◌∙◌, arith}
use Rattle.std.specs.Prelude.{pos}
use Rattle.std.proofs.lemmas.Int.{to_z-of_z, ints}
use Rattle.std.proofs.lemmas.Option.{slice_get-get_or}
use Rattle.bohm_txn.proofs.ForCallers.{drop_at, total_step}
use Rattle.bohm_shapes.specs.declared.shape.Term.{Term}
use Rattle.bohm_shapes.specs.declared.shape.Term.TheVariants.{Number}
use Rattle.bohm_shapes.specs.Seeing.{locals_of, look_of, sum_seen, term_seen}
use Rattle.bohm_shapes.proofs.sight.Sight.total.Goals as goal
use mir.Syntax.{w128}
use mir.Val.{to_z, of_z}

pub loop-term-preserved : goal.loop-term-preserved
loop-term-preserved c =
    let sight = c.args.self.now in
    let ts = c.args.terms.now in
    let i = c.loop-term.term-index in
    let none : Term = Number (pos 0) in
    let term = get_or ts i none in
    let before : ℤ = to_z w128 c.loop-term.total-bits in
    let same : to_z w128 (of_z w128 c.in_ok-total.total) ≡ c.in_ok-total.total =
    to_z-of_z w128 c.in_ok-total.total (record { sfits = omega (arith, ints, c.in_ok-total.ensures.low, c.in_ok-total.ensures.high) }) in
    let left = ap (sum_seen sight) (drop_at ts i term (slice_get-get_or ts i none c.loop-term-test.true)) in
    let step = total_step (look_of sight) (locals_of sight) _ (sum_seen sight (drop (i + 1) ts))
    (term_seen sight term) before c.in_ok-total.total left (sym c.in_ok-total.ensures.value) in
    record {
      low = rw same (omega (arith, ints, c.in_ok-total.ensures.low));
      high = rw same (omega (arith, ints, c.in_ok-total.ensures.high));
      so_far = rw same (sym step ∙ c.loop-term.invariant.so_far);
    }
