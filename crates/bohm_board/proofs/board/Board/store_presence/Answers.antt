use Rattle.std.proofs.Common.{rules}
use Rattle.bohm_board.specs.Batches.{rights_of}
use Rattle.bohm_board.proofs.Inputs.{right_within}
use Rattle.bohm_board.proofs.Refinement.{fills, presence_at_view}
use Rattle.bohm_board.proofs.board.Board.store_presence.Goals as goal

pub presence_at-at-requires : goal.presence_at-at-requires
presence_at-at-requires c = right_within (rights_of c.args.self.now.batch) _ _ c.requires.right

pub store-requires : goal.store-requires
store-requires c = (
  search rules,
  search rules,
  fills _ _ _ _ _ c.args.slot c.args.cell _ c.presence_word-word.ensures (rw c.args.self.now.keyed (search rules))
      (rw c.args.self.now.keyed (right_within (rights_of c.args.self.now.batch) _ _ c.requires.right)) (rw c.args.self.now.keyed c.requires.own.right)
      (rw c.args.self.now.keyed c.requires.fillable) c.requires.stored (rw c.args.self.now.keyed c.requires.right),
)

pub returns-clause-view : goal.returns-clause-view
returns-clause-view c = c.store.ensures.2.1 c.args.slot (presence_at_view _ _ _ _ c.requires.own.right (search rules))
