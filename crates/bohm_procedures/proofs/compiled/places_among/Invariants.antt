use Rattle.std.proofs.Common.{◌≡◌, map, take}
use Rattle.bohm_types.specs.Keys.{place}
use Rattle.bohm_procedures.proofs.compiled.places_among.Given as goal

abbrev pub invariant-loop-name : goal.invariant-loop-name
invariant-loop-name l = l.places.items ≡ map (place l.parameters) (take l.name-index l.names)
