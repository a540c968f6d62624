-- The results of a call, over every look with the registers' cells.
use Rattle.std.proofs.Common.{◌≡◌, ◌∙◌, ℕ, List, Ok, Err, ap, length, map, sym}
use Rattle.bohm_types.specs.declared.cell.Cell.{Cell}
use Rattle.bohm_txn.specs.declared.outcome.Reason.{Reason}
use Rattle.bohm_txn.specs.Meaning.{Look, body}
use Rattle.bohm_txn.specs.Serial.{outcome_of}
use Rattle.bohm_txn.specs.Tables.{Tables, start, tables_from}
use Rattle.bohm_txn.proofs.ForCallers.{IsCommit, commit_cells}
use Rattle.bohm_shapes.specs.declared.call.Call.{Call}
use Rattle.bohm_shapes.specs.Calls.{IsCall, txn_of}
use Rattle.bohm_shapes.specs.Running.{tables_of}
use Rattle.bohm_shapes.proofs.RunLaw.{run_commits, run_aborts}
use Rattle.bohm_shapes.proofs.evaluation.evaluate.Goals.{in-Ok, in-Err}
use Rattle.bohm_shapes.proofs.evaluation.evaluate.Goals as goal

module _ (call : Call) (cells : List Cell) (look : Look) (h : IsCall call) (paired : length cells ≡ length call.keys.now)
    (same : map look call.keys.now ≡ cells) where
  commits : (w : Tables) → tables_from (txn_of call) (start cells cells) 1 (txn_of call).body ≡ Ok w
      → IsCommit (txn_of call) cells (body look (txn_of call)) w
  commits w e = run_commits call.shape.now call.keys.now call.values.now cells look h.usable h.apart h.paired paired same w e

  aborts : (fault : Reason × ℕ) → tables_from (txn_of call) (start cells cells) 1 (txn_of call).body ≡ Err fault → body look (txn_of call) ≡ Err fault
  aborts fault e = run_aborts call.shape.now call.keys.now call.values.now cells look h.usable h.apart h.paired paired same fault e

pub returns-clause-outcome : goal.returns-clause-outcome
returns-clause-outcome c look same =
    let call = c.args.call.now in
    let cells = c.registers.inside.work.cells.0 in
    let paired : length cells ≡ length call.keys.now = rw (← c.registers.view_is) at c.requires.cells in
    let seen : map look call.keys.now ≡ cells = rw (← c.registers.view_is) at same in
    let tables = tables_of call.shape.now.locals.items c.run.new.work in
    elim c.match-run.branch [
      | in-Ok w ↦ (commits call cells look c.requires.call paired seen tables w.in-Ok.ensures.outcome).outcome ∙ sym w.result-is
      | in-Err w ↦
          ap outcome_of (aborts call cells look c.requires.call paired seen (w.in-Err.reason, w.in-Err.stmt) w.in-Err.ensures.outcome) ∙ sym w.result-is
    ]

pub returns-clause-shows : goal.returns-clause-shows
returns-clause-shows c is look same =
    let call = c.args.call.now in
    let cells = c.registers.inside.work.cells.0 in
    let paired : length cells ≡ length call.keys.now = rw (← c.registers.view_is) at c.requires.cells in
    let seen : map look call.keys.now ≡ cells = rw (← c.registers.view_is) at same in
    let tables = tables_of call.shape.now.locals.items c.run.new.work in
    elim c.match-run.branch [
      | in-Ok w ↦ (commits call cells look c.requires.call paired seen tables w.in-Ok.ensures.outcome).shows
      | in-Err w ↦ absurd (let both = sym w.result-is ∙ is in cc)
    ]

pub returns-clause-cells : goal.returns-clause-cells
returns-clause-cells c is look same =
    let call = c.args.call.now in
    let cells = c.registers.inside.work.cells.0 in
    let paired : length cells ≡ length call.keys.now = rw (← c.registers.view_is) at c.requires.cells in
    let seen : map look call.keys.now ≡ cells = rw (← c.registers.view_is) at same in
    let tables = tables_of call.shape.now.locals.items c.run.new.work in
    elim c.match-run.branch [
      | in-Ok w ↦ commit_cells (txn_of call) look cells tables seen (commits call cells look c.requires.call paired seen tables w.in-Ok.ensures.outcome)
      | in-Err w ↦ absurd (let both = sym w.result-is ∙ is in cc)
    ]
