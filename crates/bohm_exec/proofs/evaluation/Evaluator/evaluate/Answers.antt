use Rattle.std.proofs.Common.{◌≡◌, ℕ, ◌+◌, ◌<◌, List, ◌++◌, length, map, Some, true, false, arith, length-take, ap, sym, ◌∙◌, subst}
use Rattle.std.specs.Prelude.{ℤ, Option, unwrap_or}
use Rattle.std.specs.Option.{option_map}
use Rattle.std.specs.List.{slice_get}
use Rattle.std.proofs.lemmas.List.{length-map}
use Rattle.bohm_types.specs.declared.cell.Cell.{Cell}
use Rattle.bohm_types.specs.Txn.{Txn}
use Rattle.bohm_txn.specs.Declares.{shows_in}
use Rattle.bohm_txn.specs.Serial.{after}
use Rattle.bohm_txn.specs.Sure.{is_sure}
use Rattle.bohm_board.specs.Batches.{position, reads_at, writes_at}
use Rattle.bohm_board.specs.Serial.{show_cells}
use Rattle.bohm_board.proofs.ForCallers.{reads_before, writes_before, own_right, outcome_right, width_there, writes_paired}
use Rattle.bohm_exec.specs.Handed.{slot_cell}
use Rattle.bohm_exec.specs.Moments.{state_before}
use Rattle.bohm_exec.proofs.Based.{own_at}
use Rattle.bohm_exec.proofs.Seen.{found_front}
use Rattle.bohm_exec.proofs.Viewed.{well_formed}
use Rattle.bohm_exec.proofs.evaluation.Evaluator.evaluate.Goals as goal
use Rattle.bohm_exec.proofs.evaluation.Evaluator.evaluate.Goals.{After-txn, After-eval, then-not-self, else-not-self}

pub add_base-requires-clause-paired : goal.add_base-requires-clause-paired
add_base-requires-clause-paired c = let all = c.keys_at-read_keys.ensures in let len = c.len.ensures in simp length-take (omega arith)

pub add_base-requires-clause-few : goal.add_base-requires-clause-few
add_base-requires-clause-few c = let all = c.keys_at-read_keys.ensures in let len = c.len.ensures in simp length-take (omega arith)

pub add_base-requires-clause-found : goal.add_base-requires-clause-found
add_base-requires-clause-found c =
    let b = c.args.batch.now in
    found_front b (reads_at b c.args.t) c.args.self.now.reads c.len.result c.requires.ready.reads

pub add_base-requires-then-not-self-clause-paired : goal.add_base-requires-then-not-self-clause-paired
add_base-requires-then-not-self-clause-paired c = let all = c.keys_at-written_keys.ensures in let len = c.len-2.ensures in simp length-take (omega arith)

pub add_base-requires-then-not-self-clause-few : goal.add_base-requires-then-not-self-clause-few
add_base-requires-then-not-self-clause-few c = let all = c.keys_at-written_keys.ensures in let len = c.len-2.ensures in simp length-take (omega arith)

pub add_base-requires-then-not-self-clause-found : goal.add_base-requires-then-not-self-clause-found
add_base-requires-then-not-self-clause-found c =
    let b = c.args.batch.now in
    let ready = c.requires.ready in
    found_front b (writes_at b c.args.t) c.args.self.now.earlier c.len-2.result (ready.earlier (sym ready.sure ∙ c.if-not-self.true))

pub eval-requires-clause-well : goal.eval-requires-clause-well
eval-requires-clause-well c = well_formed c.args.batch.now c.args.t c.txn.result c.txn.ensures

pub eval-requires-clause-earlier : goal.eval-requires-clause-earlier
eval-requires-clause-earlier c =
    let all = c.keys_at-written_keys.ensures in let len = c.len-2.ensures in
    let same = simp length-take at c.if-not-self.auto.earlier in
    omega (arith, writes_paired c.args.batch.now c.args.t c.txn.result c.txn.ensures)

same_reads : (c : After-txn) → map (state_before c.args.batch.now c.args.t) c.txn.result.reads ≡ c.add_base.new.cells
same_reads c = reads_before c.args.batch.now (position c.args.batch.now c.args.t) c.txn.result c.add_base.new.cells c.txn.ensures
    (c.add_base.ensures c.txn.result c.txn.ensures)

pub returns-clause-outcome : goal.returns-clause-outcome
returns-clause-outcome c =
    let b = c.args.batch.now in
    outcome_right b (position b c.args.t) c.txn.result c.txn.ensures
    ∙ ap Some (c.eval.ensures.outcome (state_before b c.args.t) (same_reads (goal.at.returns-clause-outcome c).After-txn))

written : (c : After-eval) → map (after (state_before c.args.batch.now c.args.t) c.txn.result) c.txn.result.writes ≡ c.eval.new.scratch.cells
written c =
    let b = c.args.batch.now in
    let x = c.txn.result in
    let reads = same_reads (goal.at.After-eval c).After-txn in
    elim c.if-not-self.branch [
      | then-not-self w ↦
          let before = writes_before b (position b c.args.t) x w.add_base-then-not-self.new.cells c.txn.ensures
          (w.add_base-then-not-self.ensures x c.txn.ensures) in
          c.eval.ensures.cells (state_before b c.args.t) reads (rw w.earlier-is before)
      | else-not-self w ↦
          let sure : is_sure x ≡ true = subst (λ (o : Option Txn). unwrap_or (option_map is_sure o) false ≡ true) c.txn.ensures
          (sym c.requires.ready.sure ∙ w.if-not-self.false) in
          c.eval.ensures.sure sure (state_before b c.args.t) reads
    ]

pub returns-clause-cells : goal.returns-clause-cells
returns-clause-cells c = λ j below.
    let b = c.args.batch.now in
    let x = c.txn.result in
    let looks = state_before b c.args.t in
    let r = c.eval.new.scratch in
    let n : ℕ = shows_in x.body in
    let cells = written (goal.at.returns-clause-cells c).After-eval in
    let shows = c.eval.ensures.shows looks (same_reads (goal.at.returns-clause-cells c).After-txn) in
    let long = ap length cells in
    let inside : j < length r.cells + n = omega (arith, below, width_there b c.args.t x c.txn.ensures, long, length-map x.writes (after looks x)) in
    own_right b (position b c.args.t) x c.txn.ensures j (slot_cell r j)
    (subst (λ (z : List Cell × List ℤ). slice_get (z.0 ++ show_cells n z.1) j ≡ Some (slot_cell r j)) (λ i. (sym cells i, sym shows i))
    (own_at r.cells n r.shows j inside))
