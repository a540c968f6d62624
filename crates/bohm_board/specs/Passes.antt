-- What a pass of a board has observed, knows and holds.
use Rattle.std.specs.Prelude.{◌≡◌, ℕ, [], Option}
use Rattle.atomic_table.specs.declared.shared.Seat.{Seat}
use Rattle.bohm_board.specs.declared.batch.Batch.{Batch}
use Rattle.bohm_board.specs.declared.board.Board.{Board}
use Rattle.bohm_board.specs.declared.pass.Pass.{Pass}
use Rattle.bohm_board.specs.declared.knowledge.View.{View}
use Rattle.bohm_board.specs.Batches.{first_of, rights_of}
pub use Rattle.bohm_board.specs.Views.{IsDone, IsBusy, Holds, HoldsNothing, IsKnown, IsFilled, KnowsWanted, HasFilledAll, Continues, Keeps}

abbrev pub batch_of : Board → Batch
batch_of b = b.batch

abbrev pub view : Pass → View
view p = p.seat.me.0

-- it steps on this board, and knows the right outcomes and cells of its batch
pub record IsSeatOf (b : Board) (s : Seat (Unit {0}) View) : Type 0 where
  pub table : s.table_id ≡ b.table.shared.table_id
  pub right : s.me.0.right ≡ rights_of (batch_of b)
  pub bare : s.me.1 ≡ []

-- the pass belongs to this board
pub record IsPassOf (b : Board) (p : Pass) : Type 0 where
  pub seat : IsSeatOf b p.seat
  pub first : p.first ≡ first_of (batch_of b)

-- the timestamp of the position that the pass holds
abbrev pub held_timestamp : Pass → Option ℕ
held_timestamp p = (view p).held
