use Rattle.std.proofs.Common.{sym}
use Rattle.bohm_machine.proofs.GoingOn.{batch_on, still_on, when_err, when_ok}
use Rattle.bohm_machine.proofs.machine.Machine.run_admitted.Goals as goal

pub returns-clause-goes_on : goal.returns-clause-goes_on
returns-clause-goes_on c =
    let log = c.args.segment.now.log in
    let applied = rw c.log-txns.ensures.same at c.run_batch.ensures.applied in
    when_ok c.run_batch.result (batch_on c.args.self.now c.self.inside.history c.run_batch.new.history log
    (sym c.self.view_is) c.requires.ordered c.requires.taken.timestamps) applied

pub returns-clause-still : goal.returns-clause-still
returns-clause-still c =
    when_err c.run_batch.result (still_on c.args.self.now c.self.inside.history c.run_batch.new.history
    (sym c.self.view_is) c.requires.ordered) c.run_batch.ensures.same
