-- Successive steps of a pass on its board, taken as one.
use Rattle.std.proofs.Common.{◌∙◌, subst}
use Rattle.std.specs.Borrow.{Bor}
use Rattle.bohm_board.specs.declared.board.Board.{Board}
use Rattle.bohm_board.specs.Passes.{IsPassOf}
use Rattle.bohm_exec.specs.declared.stepper.Stepper.{Stepper}
use Rattle.bohm_exec.specs.Steps.{IsSame, Looks, seen_by}
use Rattle.bohm_exec.proofs.Viewed.{then_looks}

pub same_then : (s y z : Stepper) → IsSame s y → IsSame y z → IsSame s z
same_then s y z a b = record { board = b.board ∙ a.board; pass = b.pass ∙ a.pass }

pub looks_then : (s y z : Stepper) → Looks s y → Looks y z → Looks s z
looks_then s y z a b = record {
  same = same_then s y z a.same b.same;
  own = subst (λ (x : Bor Board). IsPassOf x.now z.pass.now) a.same.board b.own;
  view = then_looks (seen_by s) (seen_by y) (seen_by z) a.view b.view;
}
