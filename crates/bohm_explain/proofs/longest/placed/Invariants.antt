use Rattle.std.proofs.Common.{◌≡◌, ◌+◌, map, take}
use Rattle.bohm_explain.proofs.longest.placed.Given as goal

abbrev pub invariant-loop-position : goal.invariant-loop-position
invariant-loop-position l = l.places.items ≡ map (λ p. l.first + p) (take l.position-index l.positions)
