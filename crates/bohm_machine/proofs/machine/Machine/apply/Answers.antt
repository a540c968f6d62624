use Rattle.std.proofs.Common.{length, sym, take}
use Rattle.bohm_machine.proofs.GoingOn.{goes_on, ran_on}
use Rattle.bohm_machine.proofs.machine.Machine.apply.Goals as goal

pub returns-in-Ok-clause-goes_on : goal.returns-in-Ok-clause-goes_on
returns-in-Ok-clause-goes_on c =
    let log = c.args.segment.now.log in
    let a = c.apply.result.replies in
    let applied = rw c.log-txns.ensures.same at c.apply.ensures.applied in
    goes_on c.args.self.now (length a) c.self.inside.history c.apply.new.history log a
    (sym c.self.view_is) c.admit.ensures.ordered c.in_ok-admit.ensures.ok.timestamps applied

pub returns-in-Ok-clause-runs_on : goal.returns-in-Ok-clause-runs_on
returns-in-Ok-clause-runs_on c =
    let log = c.args.segment.now.log in
    let a = c.apply.result.replies in
    let applied = rw c.log-txns.ensures.same at c.apply.ensures.applied in
    let now = c.apply.new.history in
    ran_on c.args.self.now now (take (length a) log) a (goes_on c.args.self.now (length a) c.self.inside.history c.apply.new.history log a
    (sym c.self.view_is) c.admit.ensures.ordered c.in_ok-admit.ensures.ok.timestamps applied)
