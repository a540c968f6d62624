use Rattle.std.proofs.Common.{◌≢◌, ℕ, ◌<◌, refl, arith, ap, sym, ◌∙◌, subst}
use mathlib.Core.Logic.{dite}
use native.Mathlib.Decide.{ℕ_discrete}
use Rattle.bohm_board.specs.declared.batch.Batch.{Batch}
use Rattle.bohm_board.specs.Batches.{IsSlot, IsRightCell, width_at, number}
use Rattle.bohm_board.specs.Closings.{batch_of_closed, HasCell}
use Rattle.bohm_exec.specs.Handed.{slot_of}
use Rattle.bohm_exec.proofs.completion.put_cells.Goals as goal
use Rattle.bohm_exec.proofs.completion.put_cells.Goals.{After-slot_cell}

below : (c : After-slot_cell) → c.loop-index.index < width_at (batch_of_closed c.args.closed.now) c.args.t
below c = subst (λ (n : ℕ). c.loop-index.index < n) (c.width-width.ensures ∙ ap (λ (b : Batch). width_at b c.args.t) c.batch.ensures) c.loop-index-test.true

pub loop-index-init : goal.loop-index-init
loop-index-init c = record { batch = refl; statuses = λ u. refl; left = refl; all = λ j l. absurd (omega arith) }

pub set_cell-requires-clause-inside : goal.set_cell-requires-clause-inside
set_cell-requires-clause-inside c =
    let here : IsSlot (batch_of_closed c.args.closed.now) (slot_of c.args.t c.loop-index.index) =
    record { txn = c.requires.inside; index = below (goal.at.set_cell-requires-clause-inside c).After-slot_cell } in
    subst (λ (b : Batch). IsSlot b (slot_of c.args.t c.loop-index.index)) (sym c.loop-index.invariant.batch) here

pub set_cell-requires-clause-unfinished : goal.set_cell-requires-clause-unfinished
set_cell-requires-clause-unfinished c = subst (λ (n : ℕ). n < 2) (sym (c.loop-index.invariant.statuses c.args.t)) c.requires.unfinished

pub set_cell-requires-clause-right : goal.set_cell-requires-clause-right
set_cell-requires-clause-right c =
    let n = c.loop-index.index in
    let right = c.requires.right n (below (goal.at.set_cell-requires-clause-right c).After-slot_cell) in
    let here : IsRightCell (batch_of_closed c.args.closed.now) (slot_of c.args.t n) c.slot_cell.result = rw c.slot_cell.ensures right in
    subst (λ (b : Batch). IsRightCell b (slot_of c.args.t n) c.slot_cell.result) (sym c.loop-index.invariant.batch) here

pub loop-index-preserved : goal.loop-index-preserved
loop-index-preserved c =
    let n = c.loop-index.index in
    let old = c.loop-index.closed in
    let new = c.set_cell.new.self in
    let t = c.args.t in
    let inv = c.loop-index.invariant in record {
      batch = c.set_cell.ensures.batch ∙ inv.batch;
      left = c.set_cell.ensures.left ∙ inv.left;
      statuses = λ u. c.set_cell.ensures.statuses u ∙ inv.statuses u;
      all = λ j l. dite (ℕ_discrete j n)
          (λ e. subst (λ (z : ℕ). HasCell new (slot_of t z)) (sym e) c.set_cell.ensures.filled)
          (λ ne.
          let apart : number (batch_of_closed old) (slot_of t j) ≢ number (batch_of_closed old) (slot_of t n) = λ e. ne (omega (arith, e)) in
          subst (λ (z : ℕ). z ≢ 0) (sym (c.set_cell.ensures.others (slot_of t j) apart)) (inv.all j (omega arith)));
    }

pub returns-clause-all : goal.returns-clause-all
returns-clause-all c = λ j l.
    let wide = c.width-width.ensures ∙ ap (λ (b : Batch). width_at b c.args.t) c.batch.ensures in
    c.loop-index.invariant.all j (omega (arith, wide))
