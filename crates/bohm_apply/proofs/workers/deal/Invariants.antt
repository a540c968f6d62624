use Rattle.std.proofs.Common.{◌≡◌, ℕ, ◌+◌, ◌<◌, ◌≤◌, [], All, length, slice_index_or, vec_len}
use Rattle.bohm_board.specs.Passes.{IsPassOf, HoldsNothing, view}
use Rattle.bohm_apply.specs.declared.workers.job.Job.{Job}
use Rattle.bohm_apply.specs.Sweeps.{workers_of, IsReady}
use Rattle.bohm_apply.proofs.workers.deal.Given as goal

abbrev pub invariant-loop-number : goal.invariant-loop-number
invariant-loop-number l = record {
  own : IsPassOf l.board l.pass;
  free : HoldsNothing (view l.pass);
  unused : (view l.pass).finished ≡ [];
  scratches : l.workers ≤ vec_len l.pool.scratches + l.number;
  count : length l.jobs.items ≡ l.number;
  ready : All (IsReady l.board) l.jobs.items;
  workers : (w : ℕ) (d : Job) → w < l.number → (slice_index_or l.jobs.items w d).worker ≡ record { number = w; count = l.workers };
  pool : workers_of l.pool ≡ workers_of l.fn.pool;
}
