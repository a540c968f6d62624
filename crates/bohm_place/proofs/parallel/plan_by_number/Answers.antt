use Rattle.std.proofs.Common.{◌≡◌, ◌<◌, ◌∙◌, refl, length, arith}
use Rattle.bohm_place.specs.declared.by_number.NumberJob.{NumberJob}
use Rattle.bohm_place.specs.Shares.{ahead_of}
use Rattle.bohm_place.proofs.Nested.{planned, found_whole}
use Rattle.bohm_place.proofs.Behind.{are_rows}
use Rattle.bohm_place.proofs.Lists.{first_of}
use Rattle.bohm_place.proofs.parallel.plan_by_number.Goals as goal

pub gather-requires-clause-each : goal.gather-requires-clause-each
gather-requires-clause-each g c κs within w d low =
    let jobs = c.in_ok-jobs.jobs.items in
    let counted : length jobs ≡ length c.args.newest.items = c.in_ok-jobs.ensures.count in
    let many : length c.in_ok-each.each.items ≡ length c.args.newest.items = c.in_ok-each.ensures.count ∙ counted in
    let job : NumberJob = first_of jobs (omega (arith, counted, c.requires.workers)) in
    let inside : w < length c.args.newest.items = omega (arith, many, low) in
    let worker = c.in_ok-jobs.ensures.workers w job inside in
    let each = c.in_ok-each.ensures.each w job d (omega (arith, inside, counted)) in
    rw many (rw (worker.0, worker.1) at each)

pub new-requires : goal.new-requires
new-requires g c = are_rows c.args.first c.args.txns.now c.in_ok-rows.rows.items c.requires.plannable.position c.requires.plannable.room
    c.in_ok-rows.ensures.rows

pub returns-clause-planned : goal.returns-clause-planned
returns-clause-planned g c =
    let part = g.P.Partition.part_of c.args.partition.now in
    let first = c.args.first in
    let txns = c.args.txns.now in
    let found = c.in_ok-newest.found.items in
    let n = length c.in_ok-each.each.items in
    let some : 0 < n = omega (arith, c.requires.workers, c.in_ok-each.ensures.count, c.in_ok-jobs.ensures.count) in
    planned first txns found c.in_ok-rows.rows.items c.new.result c.requires.plannable.position
    (c.in_ok-newest.ensures.found ∙ found_whole part n (ahead_of first) (ahead_of first) txns some (λ done k. refl)) c.in_ok-rows.ensures.rows
    c.new.ensures.first c.new.ensures.rows (c.new.ensures.slots ∙ c.in_ok-rows.ensures.slots)
