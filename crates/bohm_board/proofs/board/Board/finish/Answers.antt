use Rattle.std.proofs.Common.{◌≡◌, Some, sym, ap, ◌∙◌, subst}
use Rattle.bohm_board.specs.Batches.{timestamp}
use Rattle.bohm_board.specs.Views.{KnowsWanted, HasFilledAll, after_finish}
use Rattle.bohm_board.proofs.SlotNumbers.{stamped}
use Rattle.bohm_board.proofs.board.Board.finish.Goals as goal
use Rattle.bohm_board.proofs.board.Board.finish.Goals.{After-position-position}

here : (c : After-position-position) → timestamp c.args.pass.now.seat.me.0.right c.position-position.result ≡ c.args.t
here c = stamped c.args.self.now.batch _ c.args.t _ c.requires.own.seat.right c.requires.inside c.position-position.ensures.position

pub store_outcome-requires-clause-held : goal.store_outcome-requires-clause-held
store_outcome-requires-clause-held c = c.requires.held ∙ ap Some (sym (here (goal.at.store_outcome-requires-clause-held c).After-position-position))

pub store_outcome-requires-clause-wanted : goal.store_outcome-requires-clause-wanted
store_outcome-requires-clause-wanted c = subst (KnowsWanted c.args.self.now.batch c.args.pass.now.seat.me.0)
    (sym (here (goal.at.store_outcome-requires-clause-wanted c).After-position-position)) c.requires.wanted

pub store_outcome-requires-clause-filled : goal.store_outcome-requires-clause-filled
store_outcome-requires-clause-filled c = subst (HasFilledAll c.args.self.now.batch c.args.pass.now.seat.me.0)
    (sym (here (goal.at.store_outcome-requires-clause-filled c).After-position-position)) c.requires.filled

pub returns-clause-view : goal.returns-clause-view
returns-clause-view c = c.store_outcome.ensures.view
    ∙ ap (after_finish c.args.pass.now.seat.me.0) (here (goal.at.returns-clause-view c).After-position-position)
