use Rattle.std.proofs.Common.{◌≡◌, Err, ap, map, sym, ◌∙◌, arith}
use Rattle.bohm_txn.specs.Meaning.{Look, body}
use Rattle.bohm_txn.specs.Room.{tables_of}
use Rattle.bohm_txn.specs.Serial.{outcome_of, shows_of}
use Rattle.bohm_txn.proofs.Answering.{placed_commit, placed_abort, commit_cells, commit_sure, abort_cells, never_aborts}
use Rattle.bohm_txn.proofs.Tracking.{IsCommit}
use Rattle.bohm_txn.proofs.UseLaws.{usable}
use Rattle.bohm_txn.proofs.evaluation.eval.Goals as goal
use Rattle.bohm_txn.proofs.evaluation.eval.Goals.{In-Ok, In-Err}

pub take_back-requires-clause-few : goal.take_back-requires-clause-few
take_back-requires-clause-few c = omega (arith, c.requires.earlier, (usable c.args.txn.now c.requires.well).few_writes)

committed : (c : In-Ok) (look : Look) → map look c.args.txn.now.reads ≡ c.args.reads.now
    → IsCommit c.args.txn.now c.args.earlier.now (body look c.args.txn.now) (tables_of c.run.new.self)
committed c = placed_commit c.edition.result c.placed-placed.result c.args.txn.now c.args.reads.now c.args.earlier.now (tables_of c.run.new.self)
    (record { well = c.requires.well; paired = c.requires.reads; written = c.requires.earlier }) c.edition.ensures c.placed-placed.ensures
    c.in-Ok.ensures.outcome

aborted : (c : In-Err) (look : Look) → map look c.args.txn.now.reads ≡ c.args.reads.now → body look c.args.txn.now ≡ Err (c.in-Err.reason, c.in-Err.stmt)
aborted c = placed_abort c.edition.result c.placed-placed.result c.args.txn.now c.args.reads.now c.args.earlier.now (c.in-Err.reason, c.in-Err.stmt)
    (record { well = c.requires.well; paired = c.requires.reads; written = c.requires.earlier }) c.edition.ensures c.placed-placed.ensures
    c.in-Err.ensures.outcome

pub returns-in-Ok-clause-outcome : goal.returns-in-Ok-clause-outcome
returns-in-Ok-clause-outcome c look same = (committed (goal.at.returns-in-Ok-clause-outcome c).In-Ok look same).outcome

pub returns-in-Ok-clause-shows : goal.returns-in-Ok-clause-shows
returns-in-Ok-clause-shows c look same = (committed (goal.at.returns-in-Ok-clause-shows c).In-Ok look same).shows

pub returns-in-Ok-clause-cells : goal.returns-in-Ok-clause-cells
returns-in-Ok-clause-cells c look same same_writes = commit_cells c.args.txn.now look c.args.earlier.now (tables_of c.run.new.self) same_writes
    (committed (goal.at.returns-in-Ok-clause-cells c).In-Ok look same)

pub returns-in-Ok-clause-sure : goal.returns-in-Ok-clause-sure
returns-in-Ok-clause-sure c sure look same = commit_sure c.args.txn.now look c.args.earlier.now (tables_of c.run.new.self) sure c.requires.earlier
    (committed (goal.at.returns-in-Ok-clause-sure c).In-Ok look same)

pub returns-in-Err-clause-outcome : goal.returns-in-Err-clause-outcome
returns-in-Err-clause-outcome c look same = ap outcome_of (aborted (goal.at.returns-in-Err-clause-outcome c).In-Err look same)

pub returns-in-Err-clause-shows : goal.returns-in-Err-clause-shows
returns-in-Err-clause-shows c look same = ap shows_of (aborted (goal.at.returns-in-Err-clause-shows c).In-Err look same) ∙ sym c.take_back.ensures.shows

pub returns-in-Err-clause-cells : goal.returns-in-Err-clause-cells
returns-in-Err-clause-cells c look same same_writes = abort_cells c.args.txn.now look c.args.earlier.now (c.in-Err.reason, c.in-Err.stmt) same_writes
    (aborted (goal.at.returns-in-Err-clause-cells c).In-Err look same) ∙ sym c.take_back.ensures.cells

pub returns-in-Err-clause-sure : goal.returns-in-Err-clause-sure
returns-in-Err-clause-sure c sure look same = never_aborts c.args.txn.now look (c.in-Err.reason, c.in-Err.stmt) sure
    (aborted (goal.at.returns-in-Err-clause-sure c).In-Err look same)
