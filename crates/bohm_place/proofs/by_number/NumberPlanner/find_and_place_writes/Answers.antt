use Rattle.std.proofs.Common.{◌≡◌, ◌<◌, ℕ, get_or, length, arith}
use Rattle.std.proofs.lemmas.List.{get_or_default}
use Rattle.bohm_place.specs.Planners.{mine, found_of_number}
use Rattle.bohm_place.proofs.Placed.{found_write}
use Rattle.bohm_place.proofs.Numbers.{placed_more, found_now}
use Rattle.bohm_place.proofs.by_number.NumberPlanner.find_and_place_writes.Goals as goal

pub loop-place-preserved : goal.loop-place-preserved
loop-place-preserved g c =
    let planner = c.args.self.now in
    let own = mine g.P.Partition.part_of planner.keys in
    let first = planner.batch.first in
    let names = planner.declared.names in
    let find = found_of_number g.P.Partition.part_of planner c.args.newest.now in
    let numbers = c.args.numbers.now in
    let i = c.loop-place.place in
    let inside : i < length numbers = omega arith in
    let number : ℕ = get_or numbers i 0 in
    let at : get_or numbers i number ≡ number = get_or_default numbers i number 0 inside in
    let old = c.args.newest.now in
    let now = c.loop-place.newest in
    let new = c.find_and_place.new.newest in
    let before = c.loop-place.invariant.placed in
    let is = c.find_and_place.ensures.placed in
    let found : c.find_and_place.result ≡ find number = rw (c.find_and_place.ensures.found)
    (found_now own first c.args.ts names numbers i number old now new c.requires.covered c.requires.named c.requires.timestamp inside at before is
    c.requires.distinct) in
    record {
      found = found_write find c.args.found.now.items c.loop-place.found.items c.push.new.self.items c.find_and_place.result numbers i number inside at
          c.loop-place.invariant.found c.in_ok-push.ensures.items found;
      known = c.find_and_place.ensures.known;
      placed = placed_more own first c.args.ts names numbers i number old now new c.requires.covered c.requires.named c.requires.timestamp inside at before is;
    }
