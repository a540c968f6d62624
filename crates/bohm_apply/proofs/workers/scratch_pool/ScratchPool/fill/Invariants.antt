use Rattle.std.proofs.Common.{◌≡◌, ◌-◌, vec_len}
use Rattle.bohm_apply.specs.Sweeps.{workers_of}
use Rattle.bohm_apply.proofs.workers.scratch_pool.ScratchPool.fill.Given as goal

abbrev pub invariant-loop-alloc : goal.invariant-loop-alloc
invariant-loop-alloc l = workers_of l.self ≡ workers_of l.fn.self

abbrev pub decreases-loop-alloc : goal.decreases-loop-alloc
decreases-loop-alloc l = l.workers - vec_len l.self.scratches
