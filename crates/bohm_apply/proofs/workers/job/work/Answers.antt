use Rattle.std.proofs.Common.{length, ap, ◌∙◌, arith}
use Rattle.bohm_exec.specs.Counts.{counted_on}
use Rattle.bohm_apply.proofs.workers.job.work.Goals as goal

pub returns : goal.returns
returns g c =
    let count = c.sweep_share-aside.ensures.counted in
    let none = ap length c.requires.unused in record {
      own = c.sweep_share-aside.ensures.own;
      free = c.sweep_share-aside.ensures.free;
      counted = count.counted ∙ ap (counted_on 0) (omega (arith, count.finished, none));
      share = c.sweep_share-aside.ensures.share;
    }
