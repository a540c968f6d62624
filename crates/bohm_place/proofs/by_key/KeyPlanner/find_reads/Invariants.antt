use Rattle.std.proofs.Common.{◌≡◌, ◌++◌, drop, map}
use Rattle.bohm_place.specs.Planners.{found_in}
use Rattle.bohm_place.proofs.by_key.KeyPlanner.find_reads.Given as goal

abbrev pub invariant-loop-place : goal.invariant-loop-place
invariant-loop-place g l =
    let find = found_in g.P.Partition.part_of l.self l.parts in
    l.found.items ++ map find (drop l.place l.keys) ≡ l.initial.found.items ++ map find l.keys
