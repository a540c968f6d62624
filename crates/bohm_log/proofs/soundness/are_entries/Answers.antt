use Rattle.bohm_types.specs.Sound.{IsEntry}
use Rattle.bohm_log.proofs.SoundDrafts.{taken_more}
use Rattle.bohm_log.proofs.soundness.are_entries.Goals as goal

pub loop-entry-preserved : goal.loop-entry-preserved
loop-entry-preserved c =
    taken_more IsEntry c.args.entries.now c.loop-entry.entry-index c.entry-item.result c.loop-entry-test.true c.entry-item.is
    c.loop-entry.invariant c.is_entry.ensures
