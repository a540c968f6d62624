use Rattle.std.proofs.Common.{◌≡◌, ℤ, ◌+◌, drop, get_or, map, ap, sym, ◌∙◌, arith, false, Some}
use Rattle.std.specs.Option.{option_map}
use Rattle.std.proofs.lemmas.Int.{to_z-of_z, ints}
use Rattle.std.proofs.lemmas.Option.{slice_get-get_or}
use Rattle.bohm_log.specs.declared.row.AtomKind.TheVariants.{Small}
use Rattle.bohm_log.specs.declared.row.TermRow.{TermRow}
use Rattle.bohm_log.specs.Parts.{term_of}
use Rattle.bohm_log.proofs.ForCallers.{drop_at}
use Rattle.bohm_txn.specs.Meaning.{atom_value, signed}
use Rattle.bohm_txn.specs.Seeing.{look_of}
use Rattle.bohm_txn.proofs.Totals.{total_step}
use Rattle.bohm_txn.proofs.environment.Environment.short_total.Goals as goal
use mir.Syntax.{w64}
use mir.Val.{to_z, of_z}

pub loop-term-preserved : goal.loop-term-preserved
loop-term-preserved c =
    let view = c.args.self.now in
    let ts = c.args.terms.now in
    let i = c.loop-term.term-index in
    let none : TermRow = record { kind = Small; minus = false; place = 0 } in
    let term = get_or ts i none in
    let before : ℤ = to_z w64 c.loop-term.total-bits in
    let number : ℤ = c.atom_or_least-number.result in
    let made : ℤ = c.signed-total.result in
    let same : to_z w64 (of_z w64 made) ≡ made =
    to_z-of_z w64 made (record { sfits = c.signed-total.type_inv }) in
    let exact : to_z w64 (of_z w64 number) ≡ number = to_z-of_z w64 number (record { sfits = c.atom_or_least-number.type_inv }) in
    let atom : atom_value (look_of view) view.locals.now (term_of view.txn.now term).1 ≡ Some number =
    c.atom_or_least-number.ensures (omega (arith, ints, exact, c.if-number.false)) in
    let value : option_map (λ x. signed before term.minus x) (atom_value (look_of view) view.locals.now (term_of view.txn.now term).1) ≡ Some made =
    ap (option_map (λ x. signed before term.minus x)) atom ∙ ap Some (ap (signed before term.minus) (sym exact) ∙ sym c.signed-total.ensures.value) in
    let left = ap (map (term_of view.txn.now)) (drop_at ts i term (slice_get-get_or ts i none c.loop-term-test.true)) in
    let step = total_step (look_of view) view.locals.now _ (map (term_of view.txn.now) (drop (i + 1) ts))
    (term_of view.txn.now term) before made left value in
    record {
      low = rw same (omega (arith, ints, c.signed-total.ensures.low, c.loop-term.invariant.low));
      high = rw same (omega (arith, ints, c.signed-total.ensures.high, c.loop-term.invariant.high));
      so_far = rw same (sym step ∙ c.loop-term.invariant.so_far);
    }
