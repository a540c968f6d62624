use Rattle.std.proofs.Common.{◌≡◌, ◌+◌, ◌<◌, ◌≤◌, ◌^◌, length, sym, arith}
use Rattle.bohm_board.specs.Batches.{txns_of}
use Rattle.bohm_exec.specs.Answers.{batch_of_finished}
use Rattle.bohm_machine.specs.Machines.{floor_of, top_of}
use Rattle.bohm_machine.proofs.GoingOn.{still_on}
use Rattle.bohm_machine.proofs.OneBatch.{as_many, finished_on}
use Rattle.bohm_machine.proofs.machine.Machine.settle.Goals as goal

pub returns-clause-goes_on : goal.returns-clause-goes_on
returns-clause-goes_on c =
    let m = c.args.self.now in
    let b = batch_of_finished c.args.finished.now in
    let ordered : floor_of m ≤ top_of m = omega (arith, c.top.ensures.ordered, c.top.ensures.top) in
    let low : top_of m + length (txns_of b) < 2 ^ 32 = omega (arith, c.requires.first, b.batched.timestamps) in
    finished_on m c.self.inside.history c.settle_alone.new.history (txns_of b) c.in-Ok.replies (sym c.self.view_is) ordered low
    (rw c.in-Ok.is at c.settle_alone.ensures.applied)

pub returns-clause-all : goal.returns-clause-all
returns-clause-all c some =
    as_many c.self.inside.history c.settle_alone.new.history (txns_of (batch_of_finished c.args.finished.now)) 4294967295 c.in-Ok.replies
    (rw c.in-Ok.is at c.settle_alone.ensures.applied)

pub returns-clause-whole : goal.returns-clause-whole
returns-clause-whole c ended =
    as_many c.self.inside.history c.settle_alone.new.history (txns_of (batch_of_finished c.args.finished.now)) 4294967295 c.in-Ok.replies
    (rw c.in-Ok.is at c.settle_alone.ensures.applied)

pub returns-in-Err-clause-goes_on : goal.returns-in-Err-clause-goes_on
returns-in-Err-clause-goes_on c =
    let m = c.args.self.now in
    let ordered : floor_of m ≤ top_of m = omega (arith, c.top.ensures.ordered, c.top.ensures.top) in
    rw c.unapplied.ensures.replies (still_on m c.self.inside.history c.settle_alone.new.history (sym c.self.view_is) ordered
    (rw c.in-Err.is at c.settle_alone.ensures.still))
