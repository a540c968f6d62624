use Rattle.std.proofs.Common.{arith}
use Rattle.bohm_explain.specs.Weighing.{terms_in}
use Rattle.bohm_explain.proofs.Further.{sum_more}
use Rattle.bohm_explain.proofs.weights.weight.Goals as goal

pub loop-index-preserved : goal.loop-index-preserved
loop-index-preserved c =
    let more = sum_more c.args.txn.now.body c.loop-index.index c.stmt.result c.stmt.ensures terms_in in
    record {
      terms = omega (arith, more, c.loop-index.invariant.terms, c.terms_in-terms.ensures.terms);
      few = omega (arith, c.loop-index.invariant.few, c.terms_in-terms.ensures.few);
    }
