use Rattle.std.proofs.Common.{cond, arith, sym, ◌∙◌}
use Rattle.bohm_txn.specs.Sure.{is_sure}
use Rattle.bohm_explain.proofs.Further.{sum_more}
use Rattle.bohm_explain.proofs.figures.count_sure.Goals.{then-sure, else-sure}
use Rattle.bohm_explain.proofs.figures.count_sure.Goals as goal

pub loop-index-preserved : goal.loop-index-preserved
loop-index-preserved c =
    let so_far = c.loop-index.invariant in
    let more = sum_more c.args.txns.now c.loop-index.index c.txn.result c.txn.ensures (λ t. cond (is_sure t) 1 0) in
    elim c.if-sure.branch [
      | then-sure w ↦
          let one = rw (sym c.sure.ensures ∙ w.if-sure.true) at more in
          record { count = omega (arith, one, w.count-is, so_far.count); few = omega (arith, w.count-is, so_far.few) }
      | else-sure w ↦
          let none = rw (sym c.sure.ensures ∙ w.if-sure.false) at more in
          record { count = omega (arith, none, w.count-is, so_far.count); few = omega (arith, w.count-is, so_far.few) }
    ]
