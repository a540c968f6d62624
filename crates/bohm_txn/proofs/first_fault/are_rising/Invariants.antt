use Rattle.std.proofs.Common.{◌≡◌, ◌-◌, drop}
use Rattle.bohm_types.specs.Keys.{rising}
use Rattle.bohm_txn.proofs.first_fault.are_rising.Given as goal

abbrev pub invariant-loop-place : goal.invariant-loop-place
invariant-loop-place l = rising (drop (l.place - 1) l.keys) ≡ rising l.keys
