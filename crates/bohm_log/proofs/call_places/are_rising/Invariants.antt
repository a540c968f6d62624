use Rattle.std.proofs.Common.{◌≡◌, ◌-◌, length, drop}
use Rattle.bohm_types.specs.KeySets.{key_set}
use Rattle.bohm_log.proofs.call_places.are_rising.Given as goal

abbrev pub invariant-loop-done : goal.invariant-loop-done
invariant-loop-done l = key_set (drop (length l.keys - l.done) l.keys) ≡ drop (length l.keys - l.done) l.keys
