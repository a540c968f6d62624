-- The results of a transaction that runs in place, over every look with the scratch's cells.
use Rattle.std.proofs.Common.{◌≡◌, ◌∙◌, Err, ap, map, sym}
use Rattle.bohm_txn.specs.Meaning.{Look, body}
use Rattle.bohm_txn.specs.Room.{tables_of}
use Rattle.bohm_txn.specs.Serial.{outcome_of, shows_of}
use Rattle.bohm_txn.proofs.Answering.{IsCall, placed_commit, placed_abort, commit_cells}
use Rattle.bohm_txn.proofs.Tracking.{IsCommit}
use Rattle.bohm_txn.proofs.evaluation.eval_in_place.Goals as goal
use Rattle.bohm_txn.proofs.evaluation.eval_in_place.Goals.{In-Ok, In-Err}

committed : (c : In-Ok) (look : Look) → map look c.args.txn.now.reads ≡ c.args.scratch.now.seen
    → IsCommit c.args.txn.now c.args.scratch.now.cells (body look c.args.txn.now) (tables_of c.run_in_place.new.self)
committed c =
    let t = c.args.txn.now in
    let reads = c.scratch.inside.work.seen.0 in
    let cells = c.scratch.inside.work.cells.0 in
    let was : IsCall t c.args.scratch.now.seen c.args.scratch.now.cells =
    record { well = c.requires.well; paired = c.requires.reads; written = c.requires.earlier } in
    let call : IsCall t reads cells = rw (← c.scratch.view_is) at was in
    rw (← c.scratch.view_is) (placed_commit c.edition.result c.placed-placed.result t reads cells (tables_of c.run_in_place.new.self) call c.edition.ensures
    c.placed-placed.ensures c.in-Ok.ensures.outcome)

aborted : (c : In-Err) (look : Look) → map look c.args.txn.now.reads ≡ c.args.scratch.now.seen → body look c.args.txn.now ≡ Err (c.in-Err.reason, c.in-Err.stmt)
aborted c =
    let t = c.args.txn.now in
    let reads = c.scratch.inside.work.seen.0 in
    let cells = c.scratch.inside.work.cells.0 in
    let was : IsCall t c.args.scratch.now.seen c.args.scratch.now.cells =
    record { well = c.requires.well; paired = c.requires.reads; written = c.requires.earlier } in
    let call : IsCall t reads cells = rw (← c.scratch.view_is) at was in
    rw (← c.scratch.view_is) (placed_abort c.edition.result c.placed-placed.result t reads cells (c.in-Err.reason, c.in-Err.stmt) call c.edition.ensures
    c.placed-placed.ensures c.in-Err.ensures.outcome)

pub returns-in-Ok-clause-outcome : goal.returns-in-Ok-clause-outcome
returns-in-Ok-clause-outcome c look same = (committed (goal.at.returns-in-Ok-clause-outcome c).In-Ok look same).outcome

pub returns-in-Ok-clause-shows : goal.returns-in-Ok-clause-shows
returns-in-Ok-clause-shows c look same = (committed (goal.at.returns-in-Ok-clause-shows c).In-Ok look same).shows

pub returns-in-Ok-clause-cells : goal.returns-in-Ok-clause-cells
returns-in-Ok-clause-cells c is look same same_writes =
    commit_cells c.args.txn.now look c.args.scratch.now.cells (tables_of c.run_in_place.new.self) same_writes
    (committed (goal.at.returns-in-Ok-clause-cells c).In-Ok look same)

pub returns-in-Err-clause-outcome : goal.returns-in-Err-clause-outcome
returns-in-Err-clause-outcome c look same = ap outcome_of (aborted (goal.at.returns-in-Err-clause-outcome c).In-Err look same)

pub returns-in-Err-clause-shows : goal.returns-in-Err-clause-shows
returns-in-Err-clause-shows c look same = ap shows_of (aborted (goal.at.returns-in-Err-clause-shows c).In-Err look same) ∙ sym c.clear.ensures.shows
