use Rattle.std.proofs.Common.{◌≡◌, length, true, false, arith, sym, subst, ◌∙◌, rules, List, All}
use Rattle.bohm_explain.specs.declared.arrow.Arrow.{Arrow}
use Rattle.bohm_explain.specs.Heaviest.{IsInside}
use Rattle.bohm_explain.specs.Wanted.{arrows_below}
use Rattle.bohm_explain.proofs.Inside.{inside_below}
use Rattle.bohm_explain.proofs.Below.{of_sure, of_unsure}
use Rattle.bohm_explain.proofs.arrow.wanted.Goals.{then-not-sure+in_ok-put_arrows-2, else-not-sure}
use Rattle.bohm_explain.proofs.arrow.wanted.Goals as goal

pub loop-to-preserved : goal.loop-to-preserved
loop-to-preserved c =
    let txns = c.args.txns.now in
    let p = c.loop-to.to in
    let x = c.txn.result in
    let before = c.loop-to.invariant.arrows in
    let reads = c.in_ok-put_arrows.ensures.arrows in
    elim c.if-not-sure.branch [
      | then-not-sure+in_ok-put_arrows-2 w ↦
          let unsure : c.sure.result ≡ false = search (rules, w.if-not-sure.true) in
          rw w.out-is (record {
            arrows = of_unsure txns p x c.txn.ensures _ _ before reads _ (sym c.sure.ensures ∙ unsure)
                w.in_ok-put_arrows-2.ensures.arrows;
            few = omega (arith, c.loop-to.invariant.few, c.in_ok-put_arrows.ensures.few, w.in_ok-put_arrows-2.ensures.few);
          })
      | else-not-sure w ↦
          let is_sure : c.sure.result ≡ true = search (rules, w.if-not-sure.false) in
          rw w.out-is (record {
            arrows = of_sure txns p x c.txn.ensures _ _ before reads (sym c.sure.ensures ∙ is_sure);
            few = omega (arith, c.loop-to.invariant.few, c.in_ok-put_arrows.ensures.few);
          })
    ]

pub returns-clause-inside : goal.returns-clause-inside
returns-clause-inside c =
    let n = length c.args.txns.now in
    let all : c.loop-to.out.items ≡ arrows_below c.args.txns.now n = search (rules, c.loop-to.invariant.arrows) in
    subst (λ (arrows : List Arrow). All (IsInside n) arrows) (sym all) (inside_below c.args.txns.now n n (omega arith))
