use Rattle.std.proofs.Common.{◌≡◌, take}
use Rattle.bohm_shapes.proofs.making.written_names.Given as goal

abbrev pub invariant-loop-place : goal.invariant-loop-place
invariant-loop-place l = l.names.items ≡ take l.place l.writes
