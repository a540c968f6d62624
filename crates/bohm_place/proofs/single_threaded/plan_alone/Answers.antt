use Rattle.std.proofs.Common.{◌∙◌, ℕ, List}
use Rattle.bohm_place.specs.Shares.{ahead_of}
use Rattle.bohm_place.proofs.OneWorker.{alone_found}
use Rattle.bohm_place.proofs.Nested.{planned}
use Rattle.bohm_place.proofs.Behind.{are_rows}
use Rattle.bohm_place.proofs.single_threaded.plan_alone.Goals as goal

pub new-requires : goal.new-requires
new-requires c = are_rows c.args.first c.args.txns.now c.in_ok-rows.rows.items c.requires.plannable.position c.requires.plannable.room c.in_ok-rows.ensures.rows

pub returns-clause-planned : goal.returns-clause-planned
returns-clause-planned c =
    let first = c.args.first in
    let txns = c.args.txns.now in
    let found = c.in_ok-found.field-0.found.items in
    planned first txns found c.in_ok-rows.rows.items c.new.result c.requires.plannable.position
    (c.in_ok-found.ensures.found ∙ alone_found (λ (k : List ℕ). 0) (ahead_of first) txns) c.in_ok-rows.ensures.rows c.new.ensures.first c.new.ensures.rows
    (c.new.ensures.slots ∙ c.in_ok-rows.ensures.slots)
