use Rattle.std.proofs.Common.{arith, ap, ◌∙◌}
use Rattle.bohm_board.specs.Steps.{SeatState}
use Rattle.bohm_board.proofs.Refinement.{joins}
use Rattle.bohm_board.proofs.PassInvariant.{kept_along, kept_joined}
use Rattle.bohm_board.proofs.SlotPlaces.{outcomes_long}
use Rattle.bohm_board.proofs.board.Board.join.Goals as goal

pub join_seat-requires : goal.join_seat-requires
join_seat-requires c =
    let words = c.args.self.now.sized in
    let positions = outcomes_long c.args.self.now.batch in
    let some = c.args.self.now.batch.batched.some in (
      c.requires.own.0.seat.table,
      c.requires.own.1.seat.table,
      c.requires.own.1.seat.bare,
      omega arith,
      joins _ _ _ _ _ (rw c.args.self.now.keyed c.requires.own.0.seat.right) c.requires.free.0 c.requires.free.1,
    )

pub invariant_of-result : goal.invariant_of-result
invariant_of-result c = record {
  bare = ap (λ (m : SeatState). m.1) c.join_seat.ensures.2 ∙ c.args.left.bare;
  fits = kept_along _ _ _ _ (ap (λ (m : SeatState). m.0) c.join_seat.ensures.2) (kept_joined c.args.left.seat.me.0 c.args.right.seat.me.0 _ _ c.args.left.fits);
}
