use Rattle.std.proofs.Common.{rules, ap, ◌∙◌}
use Rattle.bohm_board.specs.Batches.{right_cell}
use Rattle.bohm_board.specs.declared.knowledge.Rights.{Rights}
use Rattle.bohm_board.proofs.Refinement.{sees_presence, presence_at_view}
use Rattle.bohm_board.proofs.board.Board.see_presence.Goals as goal

pub load-requires : goal.load-requires
load-requires c = (
  search rules,
  search rules,
  sees_presence _ _ _ _ _ c.args.slot (rw c.args.self.now.keyed (search rules)) (rw c.args.self.now.keyed c.requires.inside)
      (rw c.args.self.now.keyed c.requires.own.right),
)

pub returns-clause-view : goal.returns-clause-view
returns-clause-view c = (c.load.ensures.2.1 c.args.slot (presence_at_view _ _ _ _ c.requires.own.right (search rules))).view

pub returns-clause-empty : goal.returns-clause-empty
returns-clause-empty c = (c.load.ensures.2.1 c.args.slot (presence_at_view _ _ _ _ c.requires.own.right (search rules))).empty

pub returns-clause-right : goal.returns-clause-right
returns-clause-right c full cell at = (c.load.ensures.2.1 c.args.slot (presence_at_view _ _ _ _ c.requires.own.right (search rules))).right full cell
    (ap (λ (r : Rights). right_cell r c.args.slot) c.requires.own.right ∙ at)
