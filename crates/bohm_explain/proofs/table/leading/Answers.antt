use Rattle.std.proofs.Common.{◌∙◌, sym, arith}
use Rattle.bohm_explain.proofs.Leads.{taken, kept}
use Rattle.bohm_explain.proofs.table.leading.Goals as goal
use Rattle.bohm_explain.proofs.table.leading.Goals.{then-heat-longest, else-heat-longest}

pub loop-heat-preserved : goal.loop-heat-preserved
loop-heat-preserved c =
    let xs = c.args.ranked.now in
    let i = c.loop-heat.heat-index in
    let h = c.heat-item.result in
    elim c.if-heat-longest.branch [
      | then-heat-longest w ↦
          let more = taken xs i h c.loop-heat-test.true c.heat-item.is (omega (arith, w.if-heat-longest, c.loop-heat.invariant.longest)) in
          record { longest = w.longest-is ∙ sym more.0; first = w.leading-is ∙ sym more.1 }
      | else-heat-longest w ↦
          let same = kept xs i h c.loop-heat-test.true c.heat-item.is (omega (arith, w.if-heat-longest, c.loop-heat.invariant.longest)) in
          record { longest = w.longest-is ∙ (c.loop-heat.invariant.longest ∙ sym same.0); first = w.leading-is ∙ (c.loop-heat.invariant.first ∙ sym same.1) }
    ]
