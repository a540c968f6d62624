use Rattle.std.proofs.Common.{◌≡◌, ℕ, ◌+◌, ◌<◌, ◌^◌, arith, sym, ap, ◌∙◌, subst}
use Rattle.bohm_board.specs.declared.status.Status.{Status}
use Rattle.bohm_board.specs.declared.status.Status.TheVariants.{Busy, Done}
use Rattle.bohm_board.specs.Batches.{timestamp}
use Rattle.bohm_board.specs.Views.{after_claim, Recalls}
use Rattle.bohm_board.proofs.PassInvariant.{kept_along, kept_claimed, kept_saw}
use Rattle.bohm_board.proofs.SlotNumbers.{stamped}
use Rattle.bohm_board.proofs.board.Board.claim.Goals as goal
use Rattle.bohm_board.proofs.board.Board.claim.Goals.{After-position-position}

here : (c : After-position-position) → timestamp c.args.pass.now.seat.me.0.right c.position-position.result ≡ c.args.t
here c = stamped c.args.self.now.batch _ c.args.t _ c.requires.own.seat.right c.requires.inside c.position-position.ensures.position

pub invariant_of-pass : goal.invariant_of-pass
invariant_of-pass c =
    let v = c.args.pass.now.seat.me.0 in
    let i = c.position-position.result in
    let first = c.args.pass.now.first in
    let from = c.requires.inside.from in
    let below = c.requires.inside.below in
    let last = c.args.self.now.batch.batched.timestamps in
    let place = c.position-position.ensures.position in
    let start = c.requires.own.first in
    let t : first + i ≡ c.args.t = omega arith in
    let fits : first + i < 2 ^ 32 = omega arith in
    let stamp = here (goal.at.invariant_of-pass c).After-position-position ∙ sym t in record {
      bare = c.exchange_status-word.ensures.own.bare;
      fits = kept_along _ _ _ _ (c.exchange_status-word.ensures.view ∙ (λ j. after_claim v (stamp j) (sym c.in-Open.ensures j))) (kept_claimed v i first fits);
    }

pub invariant_of-pass-in-Busy : goal.invariant_of-pass-in-Busy
invariant_of-pass-in-Busy c = record {
  bare = c.exchange_status-word.ensures.own.bare;
  fits = kept_along _ _ _ _
      (c.exchange_status-word.ensures.view ∙ ap (after_claim c.args.pass.now.seat.me.0 (timestamp c.args.pass.now.seat.me.0.right c.position-position.result))
      (sym c.in-Busy.ensures)) (kept_saw c.args.pass.now.seat.me.0 _ Busy _ _ c.args.pass.now.fits);
}

pub invariant_of-pass-in-Done : goal.invariant_of-pass-in-Done
invariant_of-pass-in-Done c = record {
  bare = c.exchange_status-word.ensures.own.bare;
  fits = kept_along _ _ _ _
      (c.exchange_status-word.ensures.view ∙ ap (after_claim c.args.pass.now.seat.me.0 (timestamp c.args.pass.now.seat.me.0.right c.position-position.result))
      (sym c.in-Done.ensures)) (kept_saw c.args.pass.now.seat.me.0 _ Done _ _ c.args.pass.now.fits);
}

pub returns-in-Busy-clause-view : goal.returns-in-Busy-clause-view
returns-in-Busy-clause-view c =
    let t = here (goal.at.returns-in-Busy-clause-view c).After-position-position in
    c.exchange_status-word.ensures.view ∙ (λ i. after_claim c.args.pass.now.seat.me.0 (t i) (sym c.in-Busy.ensures i))

pub returns-in-Busy-clause-recalls : goal.returns-in-Busy-clause-recalls
returns-in-Busy-clause-recalls c =
    let t = here (goal.at.returns-in-Busy-clause-recalls c).After-position-position in
    subst (λ (z : ℕ × Status). Recalls c.args.pass.now.seat.me.0 z.0 z.1) (λ i. (t i, sym c.in-Busy.ensures i)) c.exchange_status-word.ensures.recalls

pub returns-in-Done-clause-view : goal.returns-in-Done-clause-view
returns-in-Done-clause-view c =
    let t = here (goal.at.returns-in-Done-clause-view c).After-position-position in
    c.exchange_status-word.ensures.view ∙ (λ i. after_claim c.args.pass.now.seat.me.0 (t i) (sym c.in-Done.ensures i))
