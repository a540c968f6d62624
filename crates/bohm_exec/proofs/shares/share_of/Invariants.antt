use Rattle.std.proofs.Common.{◌≡◌, ◌-◌, ◌%◌, ◌==◌}
use Rattle.std.specs.List.{filter, range_with_len}
use Rattle.bohm_exec.proofs.shares.share_of.Given as goal

abbrev pub invariant-loop-distance : goal.invariant-loop-distance
invariant-loop-distance l = l.share.items ≡ filter (λ t. (t - l.first) % l.workers == l.worker) (range_with_len l.first l.distance)
