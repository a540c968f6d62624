use Rattle.std.proofs.Common.{◌≡◌, ◌++◌, [], take, drop}
use Rattle.bohm_place.specs.Chains.{placeholders_in}
use Rattle.bohm_place.specs.Shares.{placeholders_made, found_by, newest_ahead, KeepsForeign}
use Rattle.bohm_place.specs.Planners.{mine, ArePlaced}
use Rattle.bohm_place.proofs.by_key.KeyPlanner.find_all.Given as goal

abbrev pub invariant-loop-i : goal.invariant-loop-i
invariant-loop-i g l =
    let part_of = g.P.Partition.part_of in
    let own = mine part_of l.self.keys in
    let source = newest_ahead l.self.batch.first (placeholders_in (part_of l.self.keys.partition.now) l.initial.parts) in
    record {
      placed : ArePlaced part_of l.self (placeholders_made l.self.batch.first (take l.i l.self.batch.txns.now)) l.initial.parts l.parts;
      others : KeepsForeign (part_of l.self.keys.partition.now) l.initial.parts l.parts;
      found : l.found.items ++ found_by own source (take l.i l.self.batch.txns.now)
          (drop l.i l.self.batch.txns.now) ≡ found_by own source [] l.self.batch.txns.now;
    }
