use Rattle.std.proofs.Common.{◌≡◌, ◌++◌, ◌<◌, ℕ, List, length, map, take, get_or, refl, ap, ◌∙◌, arith, if◌then◌else◌}
use Rattle.std.proofs.lemmas.Option.{get_or_from_slice_get}
use Rattle.std.proofs.lemmas.List.{length-map}
use Rattle.bohm_log.specs.Parts.{name_at, names_at}
use Rattle.bohm_txn.proofs.ForCallers.{there, usable, rising_writes}
use Rattle.bohm_place.specs.declared.placeholder.Placeholder.{Placeholder}
use Rattle.bohm_place.specs.Chains.{none}
use Rattle.bohm_place.specs.Shares.{ahead_of}
use Rattle.bohm_place.specs.Planners.{mine}
use Rattle.bohm_place.proofs.NewestCell.{formed_at}
use Rattle.bohm_place.proofs.Distinct.{AreDistinct-rising}
use Rattle.bohm_place.proofs.Found.{found_on}
use Rattle.bohm_place.proofs.Numbers.{declared_at, stands_on, found_names}
use Rattle.bohm_place.proofs.by_number.NumberPlanner.find_all.Goals as goal

pub find_and_place_writes-requires-clause-few : goal.find_and_place_writes-requires-clause-few
find_and_place_writes-requires-clause-few g c κs within =
    let keys = c.args.self.now.declared in
    let txns = c.args.self.now.batch.txns.now in
    let i = c.loop-i.i in
    let (x, is) = there txns i (omega arith) in
    let same = declared_at keys txns i (c.sets.result.0.now, c.sets.result.1.now) x c.requires.numbers c.sets.ensures.sets is in
    let writes : names_at keys.names c.sets.result.1.now ≡ x.writes = ap (λ s. s.1) same in
    omega (
      arith,
      length-map c.sets.result.1.now (name_at keys.names),
      ap length writes,
      (usable x (formed_at txns c.args.self.now.batch.formed i x is)).few_writes,
    )

pub find_and_place_writes-requires-clause-distinct :
    goal.find_and_place_writes-requires-clause-distinct
find_and_place_writes-requires-clause-distinct g c κs within =
    let keys = c.args.self.now.declared in
    let txns = c.args.self.now.batch.txns.now in
    let i = c.loop-i.i in
    let (x, is) = there txns i (omega arith) in
    let same = declared_at keys txns i (c.sets.result.0.now, c.sets.result.1.now) x c.requires.numbers c.sets.ensures.sets is in
    let writes : names_at keys.names c.sets.result.1.now ≡ x.writes = ap (λ s. s.1) same in
    rw writes (AreDistinct-rising x.writes (rising_writes x (formed_at txns c.args.self.now.batch.formed i x is)))

pub loop-i-preserved : goal.loop-i-preserved
loop-i-preserved g c =
    let planner = c.args.self.now in
    let own = mine g.P.Partition.part_of planner.keys in
    let first = planner.batch.first in
    let names = planner.declared.names in
    let txns = c.args.self.now.batch.txns.now in
    let i = c.loop-i.i in
    let inside : i < length txns = omega arith in
    let (x, is) = there txns i inside in
    let at : get_or txns i x ≡ x = get_or_from_slice_get txns i x x is in
    let rs = c.sets.result.0.now in
    let ws = c.sets.result.1.now in
    let same = declared_at planner.declared txns i (rs, ws) x c.requires.numbers c.sets.ensures.sets is in
    let reads : names_at names rs ≡ x.reads = ap (λ s. s.0) same in
    let writes : names_at names ws ≡ x.writes = ap (λ s. s.1) same in
    let stands = c.loop-i.invariant.stands in
    let value : List ℕ → Placeholder = λ k. if own k then ahead_of first (take i txns) k else none in
    let placed = c.in_ok-find_and_place_writes.ensures.placed in
    let read = found_names own first names (take i txns) c.loop-i.newest rs c.sets.ensures.reads stands in
    let written = found_names own first names (take i txns) c.loop-i.newest ws c.sets.ensures.writes stands in
    let more : c.find_and_place_writes.new.found.items ≡ (c.loop-i.found.items ++ map value (get_or txns i x).reads) ++ map value (get_or txns i x).writes =
    rw (c.in_ok-find_and_place_writes.ensures.found, c.in_ok-find_reads.ensures.found, read, written, reads, writes, at) refl in
    record {
      stands = stands_on own first names txns i x ws c.loop-i.newest c.find_and_place_writes.new.newest inside at writes stands placed;
      found = found_on own (ahead_of first) txns i x inside c.loop-i.found.items c.find_and_place_writes.new.found.items c.loop-i.invariant.found more;
      known = c.find_and_place_writes.ensures.known;
      long = placed.long ∙ c.loop-i.invariant.long;
    }
