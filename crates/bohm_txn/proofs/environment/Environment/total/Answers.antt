use Rattle.std.proofs.Common.{◌≡◌, ℤ, ◌+◌, drop, get_or, map, ap, sym, ◌∙◌, arith, false}
use Rattle.std.proofs.lemmas.Int.{to_z-of_z, ints}
use Rattle.std.proofs.lemmas.Option.{slice_get-get_or}
use Rattle.bohm_log.specs.declared.row.AtomKind.TheVariants.{Small}
use Rattle.bohm_log.specs.declared.row.TermRow.{TermRow}
use Rattle.bohm_log.specs.Parts.{term_of}
use Rattle.bohm_log.proofs.ForCallers.{drop_at}
use Rattle.bohm_txn.specs.Seeing.{look_of}
use Rattle.bohm_txn.proofs.Totals.{total_step}
use Rattle.bohm_txn.proofs.environment.Environment.total.Goals as goal
use mir.Syntax.{w128}
use mir.Val.{to_z, of_z}

pub loop-term-preserved : goal.loop-term-preserved
loop-term-preserved c =
    let view = c.args.self.now in
    let ts = c.args.terms.now in
    let i = c.loop-term.term-index in
    let none : TermRow = record { kind = Small; minus = false; place = 0 } in
    let term = get_or ts i none in
    let before : ℤ = to_z w128 c.loop-term.total-bits in
    let same : to_z w128 (of_z w128 c.in_ok-total.total) ≡ c.in_ok-total.total =
    to_z-of_z w128 c.in_ok-total.total (record { sfits = omega (arith, ints, c.in_ok-total.ensures.low, c.in_ok-total.ensures.high) }) in
    let left = ap (map (term_of view.txn.now)) (drop_at ts i term (slice_get-get_or ts i none c.loop-term-test.true)) in
    let step = total_step (look_of view) view.locals.now _ (map (term_of view.txn.now) (drop (i + 1) ts))
    (term_of view.txn.now term) before c.in_ok-total.total left (sym c.in_ok-total.ensures.value) in
    record {
      low = rw same (omega (arith, ints, c.in_ok-total.ensures.low));
      high = rw same (omega (arith, ints, c.in_ok-total.ensures.high));
      so_far = rw same (sym step ∙ c.loop-term.invariant.so_far);
    }
