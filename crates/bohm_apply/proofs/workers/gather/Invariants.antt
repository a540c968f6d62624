use Rattle.std.proofs.Common.{◌≡◌, ◌++◌, length}
use Rattle.std.specs.Vec.Iter.{into_iter_items, into_iter_len}
use Rattle.bohm_board.specs.Passes.{IsPassOf, HoldsNothing, batch_of, view}
use Rattle.bohm_exec.specs.Counts.{counted_on}
use Rattle.bohm_apply.specs.Sweeps.{workers_of}
use Rattle.bohm_apply.proofs.Swept.{AreSwept}
use Rattle.bohm_apply.proofs.workers.gather.Given as goal

abbrev pub invariant-loop-one : goal.invariant-loop-one
invariant-loop-one l = record {
  own : IsPassOf l.board l.pass;
  free : HoldsNothing (view l.pass);
  counted : l.evaluations ≡ counted_on 0 (length (view l.pass).finished);
  items : l.yielded ++ into_iter_items l.one-iterator ≡ l.fn.swept.items;
  count : into_iter_len l.one-iterator ≡ length (into_iter_items l.one-iterator);
  swept : AreSwept (batch_of l.board) (length l.fn.swept.items) (length l.yielded) (view l.pass) l.asides.items;
  pool : workers_of l.pool ≡ workers_of l.fn.pool;
}
