use Rattle.std.proofs.Common.{arith, ap, ◌∙◌}
use Rattle.bohm_board.specs.Steps.{SeatState}
use Rattle.bohm_board.proofs.Refinement.{splits}
use Rattle.bohm_board.proofs.PassInvariant.{kept_along, kept_split}
use Rattle.bohm_board.proofs.SlotPlaces.{outcomes_long}
use Rattle.bohm_board.proofs.board.Board.split.Goals as goal

pub split_seat-other-requires : goal.split_seat-other-requires
split_seat-other-requires c =
    let words = c.args.self.now.sized in
    let positions = outcomes_long c.args.self.now.batch in
    let some = c.args.self.now.batch.batched.some in
    (c.requires.own.seat.table, omega arith, splits _ _ _ (rw c.args.self.now.keyed c.requires.own.seat.right) c.requires.free)

pub invariant_of-left : goal.invariant_of-left
invariant_of-left c = record {
  bare = ap (λ (m : SeatState). m.1) c.split_seat-other.ensures.2 ∙ c.args.pass.bare;
  fits = kept_along _ _ _ _ (ap (λ (m : SeatState). m.0) c.split_seat-other.ensures.2) c.args.pass.fits;
}

pub invariant_of-right : goal.invariant_of-right
invariant_of-right c = record {
  bare = ap (λ (m : SeatState). m.1) c.split_seat-other.ensures.4;
  fits = kept_along _ _ _ _ (ap (λ (m : SeatState). m.0) c.split_seat-other.ensures.4) (kept_split c.args.pass.seat.me.0 _ _ c.args.pass.fits);
}
