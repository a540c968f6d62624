use Rattle.std.proofs.Common.{rules}
use Rattle.bohm_board.proofs.Refinement.{claims}
use Rattle.bohm_board.proofs.board.Board.exchange_status.Goals as goal

pub compare_exchange-requires : goal.compare_exchange-requires
compare_exchange-requires c = (
  search rules,
  search rules,
  claims _ _ _ _ _ (rw c.args.self.now.keyed c.requires.inside) (rw c.args.self.now.keyed c.requires.own.right) c.requires.free,
)
