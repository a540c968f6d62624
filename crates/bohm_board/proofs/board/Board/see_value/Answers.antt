use Rattle.std.proofs.Common.{rules, sym, ap, ◌∙◌}
use Rattle.bohm_board.specs.Batches.{right_cell}
use Rattle.bohm_board.specs.declared.knowledge.Rights.{Rights}
use Rattle.bohm_board.proofs.Refinement.{sees_value, value_at_view}
use Rattle.bohm_board.proofs.board.Board.see_value.Goals as goal

pub load-requires : goal.load-requires
load-requires c = (
  search rules,
  search rules,
  sees_value _ _ _ _ _ c.args.slot (rw c.args.self.now.keyed (search rules)) (rw c.args.self.now.keyed c.requires.inside)
      (rw c.args.self.now.keyed c.requires.own.right) c.requires.known,
)

pub returns-clause-right : goal.returns-clause-right
returns-clause-right c = ap (λ (r : Rights). right_cell r c.args.slot) (sym c.requires.own.right)
    ∙ c.load.ensures.2.1 c.args.slot (value_at_view _ _ _ _ c.requires.own.right (search rules))
