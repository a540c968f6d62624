use Rattle.std.proofs.Common.{◌≡◌, ℕ, ◌+◌, ◌<◌, length, Some, arith, ap, subst, ◌∙◌}
use Rattle.std.specs.Prelude.{Option, unwrap_or}
use Rattle.std.specs.Option.{option_map}
use Rattle.bohm_types.specs.Txn.{Txn}
use Rattle.bohm_txn.specs.Declares.{shows_in, IsUsable}
use Rattle.bohm_board.specs.declared.batch.Batch.{Batch}
use Rattle.bohm_board.specs.Batches.{position, txns_of, txn_at, IsRightCell}
use Rattle.bohm_place.proofs.ForCallers.{usable_at}
use Rattle.bohm_board.proofs.ForCallers.{width_there}
use Rattle.bohm_exec.proofs.Serials.{serial_show}
use Rattle.bohm_exec.specs.Answers.{batch_of_finished}
use Rattle.bohm_exec.specs.Handed.{slot_of}
use Rattle.bohm_exec.proofs.finished.Finished.show.Goals as goal
use Rattle.bohm_exec.proofs.finished.Finished.show.Goals.{After-len-writes}

there : (c : After-len-writes) → txn_at (batch_of_finished c.args.self.now) c.args.t ≡ Some c.txn.result
there c = subst (λ (b : Batch). txn_at b c.args.t ≡ Some c.txn.result) c.batch.ensures c.txn.ensures

usable : (c : After-len-writes) → IsUsable c.txn.result
usable c = let b = batch_of_finished c.args.self.now in usable_at (txns_of b) b.batched.formed (position b c.args.t) c.txn.result (there c)

shows : (c : After-len-writes) → c.args.index < shows_in c.txn.result.body
shows c = subst (λ (o : Option Txn). c.args.index < unwrap_or (option_map (λ (x : Txn). shows_in x.body) o) 0) (there c) c.requires.index

pub overflow_cast-writes : goal.overflow_cast-writes
overflow_cast-writes c =
    let few = (usable (goal.at.overflow_cast-writes c).After-len-writes).few_writes in
    omega (arith, few, c.len-writes.ensures, ap length c.writes.ensures)

pub overflow_add-writes : goal.overflow_add-writes
overflow_add-writes c =
    let a = (goal.at.overflow_add-writes c).After-len-writes in
    let few = (usable a).few_writes in
    let more = (usable a).few_shows in
    omega (arith, few, more, shows a, c.len-writes.ensures, ap length c.writes.ensures)

pub slot-requires : goal.slot-requires
slot-requires c =
    let b = batch_of_finished c.args.self.now in
    record {
      txn = c.requires.txn;
      index = omega
          (arith, shows c, c.len-writes.ensures, ap length c.writes.ensures, width_there b c.args.t c.txn.result (there c));
    }

pub returns : goal.returns
returns c =
    let a = (goal.at.returns c).After-len-writes in
    let b = batch_of_finished c.args.self.now in
    let right = subst (λ (n : ℕ). IsRightCell b (slot_of c.args.t (n + c.args.index)) c.slot.result)
    (c.len-writes.ensures ∙ ap length c.writes.ensures) c.slot.ensures in
    serial_show b c.args.t c.args.index c.slot.result c.txn.result (there a) (shows a) right
