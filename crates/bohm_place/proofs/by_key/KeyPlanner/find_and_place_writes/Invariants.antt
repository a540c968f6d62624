use Rattle.std.proofs.Common.{◌≡◌, ◌++◌, take, map}
use Rattle.bohm_place.specs.Shares.{placeholders_written, KeepsForeign}
use Rattle.bohm_place.specs.Planners.{found_in, ArePlaced}
use Rattle.bohm_place.proofs.by_key.KeyPlanner.find_and_place_writes.Given as goal

abbrev pub invariant-loop-i : goal.invariant-loop-i
invariant-loop-i g l =
    let part_of = g.P.Partition.part_of in
    record {
      found : l.found.items ≡ l.initial.found.items ++ map (found_in part_of l.self l.initial.parts) (take l.i l.keys);
      placed : ArePlaced part_of l.self (placeholders_written l.ts 0 (take l.i l.keys)) l.initial.parts l.parts;
      others : KeepsForeign (part_of l.self.keys.partition.now) l.initial.parts l.parts;
    }
