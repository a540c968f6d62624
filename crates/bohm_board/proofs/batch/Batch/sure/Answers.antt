use Rattle.bohm_board.proofs.WantedSources.{sure_planned}
use Rattle.bohm_board.proofs.batch.Batch.sure.Goals as goal

pub returns : goal.returns
returns c = sure_planned c.args.self.now c.args.t c.sure.result c.requires c.sure.ensures
