use Rattle.std.proofs.Common.{rules, sym, ap, ◌∙◌, Some}
use Rattle.bohm_board.specs.Batches.{rights_of}
use Rattle.bohm_board.proofs.Inputs.{right_within}
use Rattle.bohm_board.proofs.Refinement.{stores_value, value_at_view}
use Rattle.bohm_board.proofs.board.Board.store_value.Goals as goal

pub value_at-at-requires : goal.value_at-at-requires
value_at-at-requires c = right_within (rights_of c.args.self.now.batch) _ _ c.requires.right

pub store-requires : goal.store-requires
store-requires c = (
  search rules,
  search rules,
  stores_value _ _ _ _ _ c.args.slot _ (rw c.args.self.now.keyed (search rules))
      (rw c.args.self.now.keyed (right_within (rights_of c.args.self.now.batch) _ _ c.requires.right)) (rw c.args.self.now.keyed c.requires.own.right)
      (rw c.args.self.now.keyed c.requires.fillable) c.requires.once (rw c.args.self.now.keyed (c.requires.right ∙ ap Some (sym c.value_word-word.ensures))),
)

pub returns-clause-view : goal.returns-clause-view
returns-clause-view c = c.store.ensures.2.1 c.args.slot (value_at_view _ _ _ _ c.requires.own.right (search rules))
