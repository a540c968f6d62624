use Rattle.std.proofs.Common.{◌≡◌, Some, sym, ap, ◌∙◌}
use Rattle.bohm_board.specs.Batches.{timestamp}
use Rattle.bohm_board.specs.Views.{after_status}
use Rattle.bohm_board.proofs.PassInvariant.{kept_along, kept_saw}
use Rattle.bohm_board.proofs.SlotNumbers.{stamped}
use Rattle.bohm_board.proofs.board.Board.status.Goals as goal
use Rattle.bohm_board.proofs.board.Board.status.Goals.{After-position-position}

here : (c : After-position-position) → timestamp c.args.pass.now.seat.me.0.right c.position-position.result ≡ c.args.t
here c = stamped c.args.self.now.batch _ c.args.t _ c.requires.own.seat.right c.requires.inside c.position-position.ensures.position

pub see_status-word-requires-clause-apart : goal.see_status-word-requires-clause-apart
see_status-word-requires-clause-apart c = λ h. c.requires.apart (h ∙ ap Some (here (goal.at.see_status-word-requires-clause-apart c).After-position-position))

pub invariant_of-pass : goal.invariant_of-pass
invariant_of-pass c = record {
  bare = c.see_status-word.ensures.own.bare;
  fits = kept_along _ _ _ _ c.see_status-word.ensures.view (kept_saw _ _ _ _ _ c.args.pass.now.fits);
}

pub returns-clause-view : goal.returns-clause-view
returns-clause-view c =
    let t = here (goal.at.returns-clause-view c).After-position-position in
    c.see_status-word.ensures.view ∙ (λ i. after_status c.args.pass.now.seat.me.0 (t i) (sym c.status_of_word.ensures i))

pub returns-clause-recalls : goal.returns-clause-recalls
returns-clause-recalls c = rw (c.status_of_word.ensures, ← here (goal.at.returns-clause-recalls c).After-position-position) c.see_status-word.ensures.recalls
