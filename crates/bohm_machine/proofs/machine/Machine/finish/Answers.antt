use Rattle.std.proofs.Common.{◌≡◌, ◌<◌, length, take, arith}
use Rattle.bohm_board.specs.Batches.{txns_of}
use Rattle.bohm_exec.specs.Answers.{batch_of_finished}
use Rattle.bohm_machine.proofs.GoingOn.{at_rest, ran_on}
use Rattle.bohm_machine.proofs.OneBatch.{one_batch}
use Rattle.bohm_machine.proofs.machine.Machine.finish.Goals as goal

pub returns-in-Ok-clause-runs_on : goal.returns-in-Ok-clause-runs_on
returns-in-Ok-clause-runs_on c =
    let owns = rw c.in-Ok.is at c.in_ok-finished.ensures.owns in
    let a = c.settle-applied.result.replies in
    let log = c.args.shared.calls.log in
    ran_on c.args.self.now c.settle-applied.new.self (take (length a) log) a (rw owns at c.settle-applied.ensures.goes_on)

pub returns-in-Ok-clause-batches : goal.returns-in-Ok-clause-batches
returns-in-Ok-clause-batches c some =
    let owns = rw c.in-Ok.is at c.in_ok-finished.ensures.owns in
    let few = rw c.in-Ok.is at c.in_ok-finished.ensures.few in
    let log = c.args.shared.calls.log in
    let all : length c.settle-applied.result.replies ≡ length log = rw owns at (c.settle-applied.ensures.all some) in
    one_batch log (length c.settle-applied.result.replies) (omega (arith, some, all)) few all

pub returns-in-Err-clause-goes_on : goal.returns-in-Err-clause-goes_on
returns-in-Err-clause-goes_on c = rw c.unapplied.ensures.replies (at_rest c.args.self.now)
