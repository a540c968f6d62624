use Rattle.bohm_types.specs.Txn.{Txn}
use Rattle.std.specs.Prelude.{◌≡◌, Some}
use Rattle.bohm_place.specs.Plans.{keys_in}
use Rattle.bohm_board.specs.Batches.{accesses_in, txn_at}
use Rattle.bohm_exec.specs.Handed.{AreFound}
use Rattle.bohm_exec.proofs.Based.{CellsBelow}
use Rattle.bohm_exec.proofs.evaluation.add_base.Given as goal

abbrev pub invariant-loop-index : goal.invariant-loop-index
invariant-loop-index l = record {
  found : AreFound l.batch (accesses_in l.set l.batch l.t) l.cells;
  cells : (x : Txn) → txn_at l.batch l.t ≡ Some x → CellsBelow l.batch (keys_in l.set x) (accesses_in l.set l.batch l.t) l.cells l.index;
}
