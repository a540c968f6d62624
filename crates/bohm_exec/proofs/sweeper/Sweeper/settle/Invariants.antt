use Rattle.std.proofs.Common.{ℕ, ◌<◌}
use Rattle.std.specs.Prelude.{Contains}
use Rattle.bohm_board.specs.declared.slot.Slot.{Slot}
use Rattle.bohm_board.specs.Passes.{IsPassOf, IsFilled, batch_of, view}
use Rattle.bohm_exec.specs.Handed.{slot_of}
use Rattle.bohm_exec.proofs.Viewed.{FillsOnly}
use Rattle.bohm_exec.proofs.sweeper.Sweeper.settle.Given as goal

abbrev pub invariant-loop-index : goal.invariant-loop-index
invariant-loop-index g l = record {
  own : IsPassOf l.board l.pass;
  fills : FillsOnly (view l.fn.self.stepper.pass.now) (view l.pass);
  below : (x : Slot) → Contains (view l.pass).filled x → x.index < l.index;
  all : (j : ℕ) → j < l.index → IsFilled (batch_of l.board) (view l.pass) (slot_of l.t j);
}
