use Rattle.std.proofs.Common.{◌+◌, ℕ, drop, count_by, sym, ◌∙◌, ap, arith}
use Rattle.bohm_txn.specs.Sure.{is_sure}
use Rattle.bohm_check.proofs.Totals.{one_more, no_more, counted}
use Rattle.bohm_check.proofs.summary.count_sure.Goals as goal
use Rattle.bohm_check.proofs.summary.count_sure.Goals.{then-sure, else-sure}

pub loop-index-preserved : goal.loop-index-preserved
loop-index-preserved c =
    let log = c.args.log.now in
    let i = c.loop-index.index in
    let rest = count_by is_sure (drop (i + 1) log) in
    elim c.if-sure.branch [
      | then-sure w ↦ (
        ap (λ (n : ℕ). n + rest) w.count-is ∙ one_more is_sure log i c.loop-index.count (count_by is_sure log) c.loop-index.invariant.0
            c.txn.result c.txn.ensures (sym c.sure.ensures ∙ w.if-sure.true),
        omega (arith, w.count-is, c.loop-index.invariant.1),
      )
      | else-sure w ↦ (
        ap (λ (n : ℕ). n + rest) w.count-is ∙ no_more is_sure log i c.loop-index.count (count_by is_sure log) c.loop-index.invariant.0
            c.txn.result c.txn.ensures (sym c.sure.ensures ∙ w.if-sure.false),
        omega (arith, w.count-is, c.loop-index.invariant.1),
      )
    ]

pub returns : goal.returns
returns c = counted is_sure c.args.log.now c.loop-index.index c.loop-index.count (count_by is_sure c.args.log.now) c.loop-index.invariant.0
    (omega (arith, c.loop-index-test.false, c.len-index-end.ensures))
