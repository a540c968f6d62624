use Rattle.std.proofs.Common.{◌≡◌, ◌+◌, ◌/◌, ◌<◌, ◌∷◌, length, drop, ap, ◌∙◌, arith, get_or}
use Rattle.std.proofs.lemmas.List.Sums.{sum_by-cons}
use Rattle.std.proofs.lemmas.Option.{get_or_from_slice_get}
use Rattle.bohm_types.specs.Txn.{Txn}
use Rattle.bohm_txn.proofs.ForCallers.{usable}
use Rattle.bohm_place.proofs.ForCallers.{formed_at}
use Rattle.bohm_read_ahead.specs.Sharing.{every, statements}
use Rattle.bohm_read_ahead.proofs.Samples.{sample_on}
use Rattle.bohm_read_ahead.proofs.checked_chunk.are_long.Goals as goal

pub sample-preserved : goal.sample-preserved
sample-preserved c =
    let at = c.sample in
    let was = at.invariant in
    let txns = c.args.part.now in
    let x = c.txn.result in
    let step = c.len.result / 64 + 1 in
    let inside : at.index < length txns = omega (arith, c.sample-test.true, c.len-in-sample.ensures) in
    let here : get_or txns at.index x ≡ x = get_or_from_slice_get txns at.index x x c.txn.ensures in
    let on : every step 0 (drop at.index txns) ≡ x ∷ every step 0 (drop (at.index + step) txns) =
    sample_on step at.index txns x (omega arith) inside ∙ ap (λ (t : Txn). t ∷ every step 0 (drop (at.index + step) txns)) here in
    let few = (usable x (formed_at txns c.requires.formed at.index x c.txn.ensures)).few_stmts in
    let rest = every step 0 (drop (at.index + step) txns) in
    let more = ap statements on ∙ sum_by-cons (λ (t : Txn). length t.body) x rest in
    record {
      bodies = omega (arith, was.bodies, ap length on);
      statements = omega (arith, was.statements, more, c.body_len-statements.ensures);
      low = omega (arith, was.low);
      high = omega (arith, inside);
      few = omega (arith, was.few, few, c.body_len-statements.ensures);
    }
