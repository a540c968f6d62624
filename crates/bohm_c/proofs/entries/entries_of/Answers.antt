use Rattle.std.proofs.Common.{arith}
use Rattle.std.proofs.lemmas.Grind.{common_steps}
use Rattle.bohm_c.proofs.EntryRows.{pushed_named}
use Rattle.bohm_c.proofs.entries.entries_of.Goals as goal

pub loop-row-preserved : goal.loop-row-preserved
loop-row-preserved c =
    (grind (arith, common_steps), rw c.push.ensures.items (pushed_named _ c.loop-row.entries.items c.in-Some.entry c.loop-row.invariant.1 c.in-Some.ensures.named))
