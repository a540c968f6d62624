use Rattle.std.proofs.Common.{arith, ◌≡◌, ◌+◌, ◌++◌, ◌<◌, ◌∙◌, ℕ, length, List, map, refl, take, if◌then◌else◌, subst}
use Rattle.std.proofs.lemmas.List.{length-take-le}
use Rattle.std.proofs.lemmas.Option.{get_or_from_slice_get}
use Rattle.bohm_txn.specs.Faulty.{IsWellFormedTxn}
use Rattle.bohm_txn.proofs.ForCallers.{usable, rising_writes}
use Rattle.bohm_place.specs.declared.placeholder.Placeholder.{Placeholder}
use Rattle.bohm_place.specs.Chains.{placeholders_in, none, last_or}
use Rattle.bohm_place.specs.Shares.{within}
use Rattle.bohm_place.specs.Planners.{mine}
use Rattle.bohm_place.proofs.Distinct.{AreDistinct-rising}
use Rattle.bohm_place.proofs.Placed.{all_below, below_all}
use Rattle.bohm_place.proofs.Found.{found_step, chains_step, hand_below}
use Rattle.bohm_place.proofs.by_key.KeyPlanner.find_all.Goals as goal

pub find_and_place_writes-requires-clause-few : goal.find_and_place_writes-requires-clause-few
find_and_place_writes-requires-clause-few g c κs lives =
    let txn = c.txn-txn.result in
    let formed : IsWellFormedTxn txn = subst IsWellFormedTxn (get_or_from_slice_get c.args.self.now.batch.txns.now c.loop-i.i txn txn c.txn-txn.ensures)
    (c.args.self.now.batch.formed _ txn (omega arith)) in
    rw c.writes-writes.ensures (usable txn formed).few_writes

pub find_and_place_writes-requires-clause-distinct : goal.find_and_place_writes-requires-clause-distinct
find_and_place_writes-requires-clause-distinct g c κs lives =
    let txn = c.txn-txn.result in
    let formed : IsWellFormedTxn txn = subst IsWellFormedTxn (get_or_from_slice_get c.args.self.now.batch.txns.now c.loop-i.i txn txn c.txn-txn.ensures)
    (c.args.self.now.batch.formed _ txn (omega arith)) in
    rw c.writes-writes.ensures (AreDistinct-rising txn.writes (rising_writes txn formed))

pub find_and_place_writes-requires-clause-above : goal.find_and_place_writes-requires-clause-above
find_and_place_writes-requires-clause-above g c κs lives k has =
    let planner = c.args.self.now in
    let part = g.P.Partition.part_of planner.keys.partition.now in
    let txns = c.args.self.now.batch.txns.now in
    let i = c.loop-i.i in
    let first = planner.batch.first in
    let base = placeholders_in part c.args.parts.now k in
    let now = placeholders_in part c.loop-i.parts k in
    let len : length (take i txns) ≡ i = length-take-le i txns (omega arith) in
    all_below (first + i) now (hand_below (mine g.P.Partition.part_of planner.keys k) first (first + i) base now (take i txns) k (omega arith)
    (below_all first base (c.requires.earlier k has)) (c.loop-i.invariant.placed k))

pub loop-i-preserved : goal.loop-i-preserved
loop-i-preserved g c =
    let planner = c.args.self.now in
    let part = g.P.Partition.part_of planner.keys.partition.now in
    let own = mine g.P.Partition.part_of planner.keys in
    let first = planner.batch.first in
    let base = placeholders_in part c.args.parts.now in
    let now = placeholders_in part c.loop-i.parts in
    let new = placeholders_in part c.find_and_place_writes.new.parts in
    let txns = c.args.self.now.batch.txns.now in
    let i = c.loop-i.i in
    let txn = c.txn-txn.result in
    let inside : i < length txns = omega arith in
    let value : List ℕ → Placeholder = λ k. if own k then within first (last_or none (now k)) else none in
    let reads = c.in_ok-find_reads.ensures in
    let writes = c.in_ok-find_and_place_writes.ensures.found in
    let added : c.find_and_place_writes.new.found.items ≡ (c.loop-i.found.items ++ map value txn.reads) ++ map value txn.writes =
    rw (writes, reads, c.writes-writes.ensures, c.reads-reads.ensures) refl in
    record {
      placed = λ k. chains_step own base now new first txns i txn inside k (c.loop-i.invariant.placed k)
          (rw (get_or_from_slice_get txns i txn txn c.txn-txn.ensures) (rw c.writes-writes.ensures at c.in_ok-find_and_place_writes.ensures.placed k));
      others = λ j k apart. c.in_ok-find_and_place_writes.ensures.others j k apart ∙ c.loop-i.invariant.others j k apart;
      found = found_step own base now first txns i txn inside c.loop-i.invariant.placed c.loop-i.found.items c.find_and_place_writes.new.found.items
          c.loop-i.invariant.found (rw (get_or_from_slice_get txns i txn txn c.txn-txn.ensures) added);
    }
