use Rattle.std.proofs.Common.{sym, ◌∙◌}
use Rattle.bohm_types.specs.Parts.{is_show}
use Rattle.bohm_txn.proofs.Checking.{counted_yes, counted_no}
use Rattle.bohm_txn.proofs.showing.shows.Goals as goal
use Rattle.bohm_txn.proofs.showing.shows.Goals.{then-is_show, else-is_show}

pub loop-index-preserved : goal.loop-index-preserved
loop-index-preserved c = elim c.if-is_show.branch [
  | then-is_show w ↦ w.count-is ∙ counted_yes is_show c.args.txn.now.body c.loop-index.index c.stmt.result c.loop-index.count c.stmt.ensures
      (sym c.is_show.ensures ∙ w.if-is_show.true) c.loop-index.invariant
  | else-is_show w ↦ w.count-is ∙ counted_no is_show c.args.txn.now.body c.loop-index.index c.stmt.result c.loop-index.count c.stmt.ensures
      (sym c.is_show.ensures ∙ w.if-is_show.false) c.loop-index.invariant
]
