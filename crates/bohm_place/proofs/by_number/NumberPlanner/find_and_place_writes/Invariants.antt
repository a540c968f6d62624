use Rattle.std.proofs.Common.{◌≡◌, ◌++◌, take, map}
use Rattle.bohm_place.specs.Planners.{found_of_number, ArePlacedByNumber, Knows}
use Rattle.bohm_place.proofs.by_number.NumberPlanner.find_and_place_writes.Given as goal

abbrev pub invariant-loop-place : goal.invariant-loop-place
invariant-loop-place g l =
    let part_of = g.P.Partition.part_of in
    record {
      found : l.found.items ≡ l.initial.found.items ++ map (found_of_number part_of l.self l.initial.newest) (take l.place l.numbers);
      known : Knows part_of l.self l.known;
      placed : ArePlacedByNumber part_of l.self l.ts (take l.place l.numbers) l.initial.newest l.newest;
    }
