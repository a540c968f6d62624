use Rattle.std.proofs.Common.{length, sym, take}
use Rattle.bohm_machine.proofs.GoingOn.{goes_on, ran_on}
use Rattle.bohm_machine.proofs.machine.Machine.apply_on_workers.Goals as goal

pub returns-then-count-eq1-clause-goes_on : goal.returns-then-count-eq1-clause-goes_on
returns-then-count-eq1-clause-goes_on g c =
    let log = c.args.segment.now.log in
    let a = c.apply.result.replies in
    let applied = rw (c.log-txns.ensures.same, c.timestamps.ensures, c.new-keep.ensures) at c.apply.ensures.applied in
    goes_on c.args.self.now (length a) c.self.inside.history c.apply.new.history log a
    (sym c.self.view_is) c.admit.ensures.ordered c.in_ok-admit.ensures.ok.timestamps applied

pub returns-then-count-eq1-clause-runs_on : goal.returns-then-count-eq1-clause-runs_on
returns-then-count-eq1-clause-runs_on g c =
    let log = c.args.segment.now.log in
    let a = c.apply.result.replies in
    let applied = rw (c.log-txns.ensures.same, c.timestamps.ensures, c.new-keep.ensures) at c.apply.ensures.applied in
    let now = c.apply.new.history in
    ran_on c.args.self.now now (take (length a) log) a (goes_on c.args.self.now (length a) c.self.inside.history c.apply.new.history log a
    (sym c.self.view_is) c.admit.ensures.ordered c.in_ok-admit.ensures.ok.timestamps applied)

pub returns-clause-goes_on : goal.returns-clause-goes_on
returns-clause-goes_on g c =
    let log = c.args.segment.now.log in
    let a = c.apply-2.result.replies in
    let applied = rw (c.log-txns.ensures.same, c.new-keep.ensures) at c.apply-2.ensures.applied in
    goes_on c.args.self.now (length a) c.self.inside.history c.apply-2.new.history log a
    (sym c.self.view_is) c.admit.ensures.ordered c.in_ok-admit.ensures.ok.timestamps applied

pub returns-clause-runs_on : goal.returns-clause-runs_on
returns-clause-runs_on g c =
    let log = c.args.segment.now.log in
    let a = c.apply-2.result.replies in
    let applied = rw (c.log-txns.ensures.same, c.new-keep.ensures) at c.apply-2.ensures.applied in
    let now = c.apply-2.new.history in
    ran_on c.args.self.now now (take (length a) log) a (goes_on c.args.self.now (length a) c.self.inside.history c.apply-2.new.history log a
    (sym c.self.view_is) c.admit.ensures.ordered c.in_ok-admit.ensures.ok.timestamps applied)
