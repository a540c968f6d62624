use Rattle.std.proofs.Common.{◌≡◌, ◌++◌, [], take, drop, length}
use Rattle.bohm_place.specs.Shares.{found_by, ahead_of}
use Rattle.bohm_place.specs.Numbered.{StandsBehind}
use Rattle.bohm_place.specs.Planners.{mine, Knows}
use Rattle.bohm_place.proofs.by_number.NumberPlanner.find_all.Given as goal

abbrev pub invariant-loop-i : goal.invariant-loop-i
invariant-loop-i g l =
    let own = mine g.P.Partition.part_of l.self.keys in
    let source = ahead_of l.self.batch.first in
    record {
      stands : StandsBehind own l.self.batch.first l.self.declared.names (take l.i l.self.batch.txns.now) l.newest;
      found : l.found.items ++ found_by own source (take l.i l.self.batch.txns.now)
          (drop l.i l.self.batch.txns.now) ≡ found_by own source [] l.self.batch.txns.now;
      known : Knows g.P.Partition.part_of l.self l.known;
      long : length l.newest ≡ length l.initial.newest;
    }
