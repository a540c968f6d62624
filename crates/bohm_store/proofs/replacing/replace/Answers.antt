use Rattle.bohm_store.proofs.Entries.{put_back}
use Rattle.bohm_store.proofs.replacing.replace.Goals as goal

pub returns : goal.returns
returns c n = put_back c.args.newest.now c.args.write.number n c.held_from-held.result c.args.write.version c.requires c.held_from-held.ensures
