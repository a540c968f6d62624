use Rattle.std.proofs.Common.{arith, rules, ◌≡◌, ℕ, ◌<◌, ◌∙◌, ◌++◌, [], ap, List, length, take, drop, slice_index_or}
use Rattle.std.proofs.lemmas.Grind.{common_steps}
use Rattle.std.proofs.lemmas.Result.{IfOk-weaker}
use Rattle.bohm_place.specs.declared.by_key.PartsJob.{PartsJob}
use Rattle.bohm_place.specs.Chains.{placeholders_in, begins}
use Rattle.bohm_place.specs.Shares.{HasPartsOf, placeholders_made, ahead_of}
use Rattle.bohm_place.proofs.Nested.{nested, right_plan, no_places, rows_whole}
use Rattle.bohm_place.proofs.Lists.{first_of}
use Rattle.bohm_place.proofs.Parted.{found_in_all, can_place}
use Rattle.bohm_place.proofs.Behind.{are_rows, early, chain_on, chain_below}
use Rattle.bohm_place.proofs.planning.plan.Given as given
use Rattle.bohm_place.proofs.planning.plan.Goals.{After-new}
use Rattle.bohm_place.proofs.planning.plan.Goals as goal

pub plan_all-requires : goal.plan_all-requires
plan_all-requires g c = (
  search rules,
  (
    search rules,
    λ w d low.
        let part = g.P.Partition.part_of c.args.partition.now in
        let n = c.min-workers.result in
        let given = c.into_parts-parts.result.items in
        let jobs = c.in_ok-jobs.jobs.items in
        let at : w < n = omega (arith, low, c.in_ok-jobs.ensures.count) in
        let job = slice_index_or jobs w d in
        let worker = c.in_ok-jobs.ensures.workers w d at in
        let own : HasPartsOf n w given job.parts.items = rw c.as_mut_slice.ensures.value at (c.in_ok-jobs.ensures.own w d at) in
        let long : length job.parts.items ≡ length given = rw c.as_mut_slice.ensures.value at (c.in_ok-jobs.ensures.parts w d at) in
        let same = c.into_parts-parts.ensures in
        let inside : (k : List ℕ) → part k < length given = λ k. omega (arith, c.each_key_has_a_part.ensures k, c.requires.parts, ap length same) in
        rw (worker.0, worker.1) (can_place part n c.args.first given job.parts.items w own inside (g.P.Partition.count c.args.partition.now)
        (ap length same ∙ c.requires.parts) long (rw same c.requires.earlier)),
  ),
)

pub gather-requires-clause-each : goal.gather-requires-clause-each
gather-requires-clause-each g c κs lives w d low =
    let part = g.P.Partition.part_of c.args.partition.now in
    let n = c.min-workers.result in
    let txns = c.args.txns.now in
    let given = c.into_parts-parts.result.items in
    let jobs = c.in_ok-jobs.jobs.items in
    let counted : length jobs ≡ n = c.in_ok-jobs.ensures.count in
    let many : length c.in_ok-each.each.items ≡ n = c.in_ok-each.ensures.count ∙ counted in
    let at : w < n = omega (arith, many, low) in
    let first_job : PartsJob = first_of jobs (omega (arith, counted, at)) in
    let job = slice_index_or jobs w first_job in
    let worker = c.in_ok-jobs.ensures.workers w first_job at in
    let own : HasPartsOf n w given job.parts.items = rw c.as_mut_slice.ensures.value at (c.in_ok-jobs.ensures.own w first_job at) in
    let long : length job.parts.items ≡ length given = rw c.as_mut_slice.ensures.value at (c.in_ok-jobs.ensures.parts w first_job at) in
    let each = c.in_ok-each.ensures.each w first_job d (omega (arith, at, counted)) in
    let inside : (k : List ℕ) → part k < length given =
    λ k. omega (arith, c.each_key_has_a_part.ensures k, c.requires.parts, ap length c.into_parts-parts.ensures) in
    rw (c.of-given.ensures, many)
    (IfOk-weaker (slice_index_or c.in_ok-each.each.items w d) _ _
    (λ f right. found_in_all part n c.args.first txns given job.parts.items f.parts.items w f.found.items
    (rw (worker.0, worker.1) at right) own inside long) each)

pub new-requires : goal.new-requires
new-requires g c = are_rows c.args.first c.args.txns.now c.in_ok-rows.rows.items c.requires.plannable.position c.requires.plannable.room
    c.in_ok-rows.ensures.rows

-- each access has the newest placeholder of its key from the earlier transactions of the batch
rows_planned : (g : given.Over) (c : After-new g) → c.new.result.rows ≡ nested (ahead_of c.args.first) 0 [] c.args.txns.now
rows_planned g c =
    let part = g.P.Partition.part_of c.args.partition.now in
    let h = c.in_ok-found.ensures.found in
    let found = rw c.of-given.ensures at h in
    let n = length c.in_ok-each.each.items in
    let some : 0 < n = omega (arith, c.parts.ensures.some, c.requires.workers, c.min-workers.ensures, c.in_ok-each.ensures.count, c.in_ok-jobs.ensures.count) in
    let given = c.into_parts-parts.result.items in
    let before = early part c.args.first c.args.shards given c.into_parts-parts.ensures c.requires.earlier in
    c.new.ensures.rows ∙ rows_whole part n c.args.first c.args.txns.now given c.in_ok-found.found.items c.in_ok-rows.rows.items some
    c.requires.plannable.position before found c.in_ok-rows.ensures.rows

-- a key's chain in the new shards is its old chain, followed by its placeholders from the batch
made_behind : (g : given.Over) (c : After-new g) (k : List ℕ) → placeholders_in (g.P.Partition.part_of c.args.partition.now) c.from_parts.result k
    ≡ placeholders_in (g.P.Partition.part_of c.args.partition.now) c.into_parts-parts.result.items k ++ placeholders_made c.args.first c.args.txns.now k
made_behind g c k =
    let left = c.gather.new.parts in
    let same : take c.into_parts-parts.result.len
    (left ++ drop (length left) (take c.into_parts-parts.result.len (c.deal.new.parts ++ drop (length c.deal.new.parts) c.into_parts-parts.result.items)))
    ≡ left = grind (arith, common_steps) in
    let h = c.in_ok-found.ensures.chains k in
    let more = rw c.of-given.ensures at h in
    rw (c.from_parts.ensures, same) more

pub returns-clause-planned : goal.returns-clause-planned
returns-clause-planned g c =
    let first = c.args.first in
    let txns = c.args.txns.now in
    let above = c.requires.plannable.position in
    let rows = rows_planned g (goal.at.returns-clause-planned g c).After-new in
    record {
      first = c.new.ensures.first;
      right = right_plan first txns c.new.result above c.new.ensures.first rows (c.new.ensures.slots ∙ c.in_ok-rows.ensures.slots);
      unplaced = no_places first txns c.new.result above rows;
    }

pub returns-clause-chains : goal.returns-clause-chains
returns-clause-chains g c k =
    let part = g.P.Partition.part_of c.args.partition.now in
    let behind = made_behind g (goal.at.returns-clause-chains g c).After-new k in
    chain_on part c.args.first c.args.txns.now c.args.shards c.into_parts-parts.result.items c.from_parts.result c.into_parts-parts.ensures k behind
    c.requires.plannable.formed

pub returns-clause-below : goal.returns-clause-below
returns-clause-below g c k =
    let part = g.P.Partition.part_of c.args.partition.now in
    let behind = made_behind g (goal.at.returns-clause-below g c).After-new k in
    chain_below part c.args.first c.args.txns.now c.args.shards c.into_parts-parts.result.items c.from_parts.result c.into_parts-parts.ensures k behind
    c.requires.earlier

pub returns-clause-others : goal.returns-clause-others
returns-clause-others g c i k low apart =
    let left = c.gather.new.parts in
    let same : take c.into_parts-parts.result.len
    (left ++ drop (length left) (take c.into_parts-parts.result.len (c.deal.new.parts ++ drop (length c.deal.new.parts) c.into_parts-parts.result.items)))
    ≡ left = grind (arith, common_steps) in
    let h = c.in_ok-found.ensures.others i k (omega (arith, low, c.requires.parts)) apart in
    let more = rw c.of-given.ensures at h in
    rw (c.from_parts.ensures, same) (ap begins (more ∙ ap (λ parts. placeholders_in (λ _. i) parts k) c.into_parts-parts.ensures))
