use Rattle.std.proofs.Common.{◌≡◌, true, false, Some, ap, sym, ◌∙◌}
use Rattle.std.specs.Option.{option_eq}
use Rattle.std.specs.Str.{bytes_eq}
use Rattle.bohm_types.specs.Parts.{target}
use Rattle.bohm_types.specs.Keys.{some_passes}
use Rattle.bohm_txn.proofs.Evaluating.{is_key}
use Rattle.bohm_txn.proofs.sureness.is_target.Goals as goal
use Rattle.bohm_log.proofs.ForCallers.{drop_at}

pub returns-then-eq : goal.returns-then-eq
returns-then-eq c =
    let k = c.args.key.now in
    let here : some_passes (λ x. bytes_eq x k) (target c.stmt.result) ≡ true =
    sym (is_key k (target c.stmt.result)) ∙ ap (λ o. option_eq bytes_eq o (Some k)) (sym c.target.ensures) ∙ sym c.eq.ensures ∙ c.if-eq.true in
    rw here at (rw (drop_at c.args.txn.now.body c.loop-index.index c.stmt.result c.stmt.ensures) at c.loop-index.invariant)

pub loop-index-preserved : goal.loop-index-preserved
loop-index-preserved c =
    let k = c.args.key.now in
    let other : some_passes (λ x. bytes_eq x k) (target c.stmt.result) ≡ false =
    sym (is_key k (target c.stmt.result)) ∙ ap (λ o. option_eq bytes_eq o (Some k)) (sym c.target.ensures) ∙ sym c.eq.ensures ∙ c.if-eq.false in
    rw other at (rw (drop_at c.args.txn.now.body c.loop-index.index c.stmt.result c.stmt.ensures) at c.loop-index.invariant)
