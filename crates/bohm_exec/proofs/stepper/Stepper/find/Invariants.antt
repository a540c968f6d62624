use Rattle.bohm_board.specs.Passes.{IsPassOf, batch_of, view}
use Rattle.bohm_board.specs.Batches.{accesses_in}
use Rattle.bohm_exec.specs.Steps.{LooksOnly}
use Rattle.bohm_exec.proofs.Seen.{KnownBelow, FoundBelow}
use Rattle.bohm_exec.proofs.stepper.Stepper.find.Given as goal

abbrev pub invariant-loop-index : goal.invariant-loop-index
invariant-loop-index l = record {
  own : IsPassOf l.board l.pass;
  looks : LooksOnly (view l.fn.self.pass.now) (view l.pass);
  known : KnownBelow (batch_of l.board) (view l.pass) (accesses_in l.set (batch_of l.board) l.t) l.index;
  found : FoundBelow (batch_of l.board) (accesses_in l.set (batch_of l.board) l.t) l.cells l.index;
}
