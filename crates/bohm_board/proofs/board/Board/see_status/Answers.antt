use Rattle.std.proofs.Common.{rules}
use Rattle.bohm_board.proofs.Refinement.{sees}
use Rattle.bohm_board.proofs.board.Board.see_status.Goals as goal

pub load-requires : goal.load-requires
load-requires c = (
  search rules,
  search rules,
  sees _ _ _ _ _ (rw c.args.self.now.keyed c.requires.inside)
      (rw c.args.self.now.keyed c.requires.own.right) c.requires.apart,
)
