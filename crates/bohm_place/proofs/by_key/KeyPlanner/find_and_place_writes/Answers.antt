use Rattle.std.proofs.Common.{◌≡◌, ◌<◌, List, All, take, get_or, length, sym, subst, ◌∙◌, arith, if◌then◌else◌}
use Rattle.std.proofs.lemmas.List.{length-take-le}
use Rattle.std.proofs.lemmas.Option.{get_or_from_slice_get}
use Rattle.bohm_place.specs.declared.placeholder.Placeholder.{Placeholder}
use Rattle.bohm_place.specs.Chains.{placeholders_in, begins, none, last_or}
use Rattle.bohm_place.specs.Shares.{within}
use Rattle.bohm_place.specs.Planners.{mine}
use Rattle.bohm_place.proofs.Placed.{write_placed, not_yet_placed, found_write}
use Rattle.bohm_place.proofs.by_key.KeyPlanner.find_and_place_writes.Goals as goal

pub find_and_place-requires-clause-above : goal.find_and_place-requires-clause-above
find_and_place-requires-clause-above g c κs lives has =
    let planner = c.args.self.now in
    let part = g.P.Partition.part_of planner.keys.partition.now in
    let own = mine g.P.Partition.part_of planner.keys in
    let keys = c.args.keys.now in
    let i = c.loop-i.i in
    let key = c.key.result.now in
    let is : get_or keys i key ≡ key = get_or_from_slice_get keys i key key c.key.ensures in
    let base = placeholders_in part c.args.parts.now in
    let now = placeholders_in part c.loop-i.parts in
    let same : now (get_or keys i key) ≡ base (get_or keys i key) = not_yet_placed (own (get_or keys i key)) (base (get_or keys i key))
    (now (get_or keys i key)) c.args.ts i keys key (omega arith) c.requires.distinct (c.loop-i.invariant.placed (get_or keys i key)) in
    let here : now key ≡ base key = rw is at same in
    subst (λ (vs : List Placeholder). All (λ b. b < c.args.ts) (begins vs)) (sym here) (c.requires.above key has)

pub loop-i-preserved : goal.loop-i-preserved
loop-i-preserved g c =
    let planner = c.args.self.now in
    let part = g.P.Partition.part_of planner.keys.partition.now in
    let own = mine g.P.Partition.part_of planner.keys in
    let keys = c.args.keys.now in
    let i = c.loop-i.i in
    let key = c.key.result.now in
    let is : get_or keys i key ≡ key = get_or_from_slice_get keys i key key c.key.ensures in
    let inside : i < length keys = omega arith in
    let len : length (take i keys) ≡ i = length-take-le i keys (omega arith) in
    let base = placeholders_in part c.args.parts.now in
    let now = placeholders_in part c.loop-i.parts in
    let new = placeholders_in part c.find_and_place.new.parts in
    let same : now (get_or keys i key) ≡ base (get_or keys i key) = not_yet_placed (own (get_or keys i key)) (base (get_or keys i key))
    (now (get_or keys i key)) c.args.ts i keys key inside c.requires.distinct (c.loop-i.invariant.placed (get_or keys i key)) in
    let here : now key ≡ base key = rw is at same in
    let found_here : c.in_ok-newest.newest ≡ (if own key then within planner.batch.first (last_or none (base key)) else none) =
    rw here at c.in_ok-newest.ensures.found in
    record {
      found = found_write (λ k. if own k then within planner.batch.first (last_or none (base k)) else none) c.args.found.now.items c.loop-i.found.items
          c.push.new.self.items c.in_ok-newest.newest keys i key inside is c.loop-i.invariant.found c.in_ok-push.ensures.items found_here;
      placed = λ k. write_placed (own k) (base k) (now k) (new k) c.args.ts i keys k key inside len (c.loop-i.invariant.placed k)
          (rw is (c.in_ok-newest.ensures.placed k));
      others = λ j k apart. c.in_ok-newest.ensures.others j k apart ∙ c.loop-i.invariant.others j k apart;
    }
