use Rattle.std.proofs.Common.{Some, length, ap, arith, subst, sym}
use Rattle.std.specs.Prelude.{Option}
use Rattle.std.proofs.lemmas.Bool.{false≢true}
use Rattle.bohm_board.specs.declared.batch.Batch.{Batch}
use Rattle.bohm_board.specs.declared.slot.Slot.{Slot}
use Rattle.bohm_board.specs.Closings.{batch_of_closed}
use Rattle.bohm_board.proofs.ForCallers.{IsEarlier}
use Rattle.bohm_board.specs.Batches.{IsRightCell, IsSlot, accesses_in}
use Rattle.bohm_exec.specs.Handed.{TakesSlot}
use Rattle.bohm_exec.proofs.Seen.{earlier_at, found_base, found_within, are_found, taken_before, taken_within}
use Rattle.bohm_exec.proofs.completion.take_cells.Goals as goal
use Rattle.bohm_exec.proofs.completion.take_cells.Goals.{After-slot_at, In-Some, in-Some+in-Some-cell, in_default}

taken : (c : After-slot_at) → TakesSlot (accesses_in c.args.set (batch_of_closed c.args.closed.now) c.args.t) c.loop-index.index c.slot_at.result
taken c = subst (λ (b : Batch). TakesSlot (accesses_in c.args.set b c.args.t) c.loop-index.index c.slot_at.result) c.batch-batch.ensures c.slot_at.ensures

here : (c : In-Some) → TakesSlot (accesses_in c.args.set (batch_of_closed c.args.closed.now) c.args.t) c.loop-index.index (Some c.in-Some.slot)
here c = subst (λ (o : Option Slot). TakesSlot (accesses_in c.args.set (batch_of_closed c.args.closed.now) c.args.t) c.loop-index.index o) c.in-Some.is
    (taken (goal.at.In-Some c).After-slot_at)

earlier : (c : In-Some) → IsEarlier (batch_of_closed c.args.closed.now) c.args.t (here c).access c.in-Some.slot.txn
earlier c =
    let b = batch_of_closed c.args.closed.now in
    let within = taken_within (accesses_in c.args.set b c.args.t) c.loop-index.index c.in-Some.slot (here c) in
    earlier_at b c.args.t c.args.set c.loop-index.index (here c).access c.in-Some.slot.txn c.requires.inside c.requires.wanted (here c).at within.0

pub loop-index-init : goal.loop-index-init
loop-index-init c = λ j a u cell l at is here. absurd (omega arith)

pub cell-requires : goal.cell-requires
cell-requires c =
    let b = batch_of_closed c.args.closed.now in
    let at = (goal.at.cell-requires c).In-Some in
    let within = taken_within (accesses_in c.args.set b c.args.t) c.loop-index.index c.in-Some.slot (here at) in
    subst (λ (z : Slot). IsSlot b z) within.1 (earlier at).slot

pub unreachable-requires : goal.unreachable-requires
unreachable-requires c =
    let e = earlier (goal.at.unreachable-requires c).In-Some in
    let none = c.in-None.ensures.whole (c.requires.before c.in-Some.slot.txn e.slot.txn e.below) in
    absurd (false≢true none)

pub loop-index-preserved : goal.loop-index-preserved
loop-index-preserved c =
    let b = batch_of_closed c.args.closed.now in
    let accesses = accesses_in c.args.set b c.args.t in
    let n = c.loop-index.index in
    let cells = c.loop-index.cells in
    let took = taken (goal.at.loop-index-preserved c).After-slot_at in
    elim c.match-slot_at.branch [
      | in-Some+in-Some-cell w ↦
          let slot = w.in-Some.slot in
          let at = subst (λ (o : Option Slot). TakesSlot accesses n o) w.in-Some.is took in
          let within = taken_within accesses n slot at in
          let right = subst (λ (z : Slot). IsRightCell b z w.in-Some-cell.cell) (sym within.1) w.in-Some-cell.ensures.right in
          rw w.cells-is (found_within b accesses cells n at.access slot.txn w.in-Some-cell.cell (omega arith) c.loop-index.invariant at.at within.0 right)
      | in_default w ↦
          let at = subst (λ (o : Option Slot). TakesSlot accesses n o) w.in_default.is took in
          rw w.cells-is (found_base b accesses cells n at.access c.loop-index.invariant at.at (taken_before accesses n at))
    ]

pub returns : goal.returns
returns c =
    let b = batch_of_closed c.args.closed.now in
    are_found b (accesses_in c.args.set b c.args.t) c.loop-index.cells c.loop-index.index
    (omega (arith, ap (λ (z : Batch). length (accesses_in c.args.set z c.args.t)) c.batch-batch.ensures)) c.loop-index.invariant
