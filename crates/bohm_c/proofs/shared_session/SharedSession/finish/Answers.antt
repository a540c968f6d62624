use Rattle.std.proofs.Common.{◌≡◌, ap, subst, refl, length, arith}
use Rattle.bohm_types.specs.Document.{Document}
use Rattle.bohm_machine.specs.Machines.{now_of}
use Rattle.bohm_c.specs.Keeping.{IsRunUntold}
use Rattle.bohm_c.specs.Listed.{Listed}
use Rattle.bohm_c.specs.Sharing.{Sharing}
use Rattle.bohm_c.specs.declared.session.Session.{Session}
use Rattle.bohm_c.proofs.Ran.{no_more}
use Rattle.bohm_c.proofs.shared_session.SharedSession.finish.Goals as goal
use Rattle.bohm_c.proofs.shared_session.SharedSession.finish.Goals.{then-ran-count, else-ran-count}

pub returns-after-ran-count-clause-ran : goal.returns-after-ran-count-clause-ran
returns-after-ran-count-clause-ran c =
    let was = c.self.inside.session in
    let ended = c.in-Ok.ensures in
    let now : Session = record {
      machine = c.finish.new.machine;
      waiting = c.in-Ok.applied.replies;
      behind = c.top-behind.result;
      single = was.single;
    } in
    let ran : IsRunUntold was now c.self.inside.shared.calls = record {
      run = record {
        waited = c.self.invariant.1.0;
        taken = c.self.invariant.1.1;
        goes_on = ended.goes_on;
        runs_on = ended.runs_on;
        batches = ended.batches;
        names = refl;
      };
      behind = c.top-behind.ensures.top;
    } in
    subst (λ (s : Sharing). IsRunUntold s.session now s.list.calls) c.self.view_is ran

pub returns-after-ran-count-clause-whole : goal.returns-after-ran-count-clause-whole
returns-after-ran-count-clause-whole c = λ e.
    let ended = c.in-Ok.ensures in
    let calls = c.self.inside.shared.calls in
    let few = no_more (now_of c.self.inside.session.machine) calls.log c.in-Ok.applied.replies ended.goes_on.replies in
    let same : length calls.log ≡ length c.args.self.list.calls.log = ap (λ (s : Sharing). length s.list.calls.log) c.self.view_is in
    let listed : length c.finish.new.self.calls.log ≡ length calls.log = ap (λ (l : Listed). length l.calls.log) ended.list in
    let held : length c.segment.result.now.log ≡ length c.finish.new.self.calls.log = ap (λ (d : Document). length d.log) c.segment.ensures.same in
    elim c.if-ran-count.branch [
      | then-ran-count w ↦ absurd (omega (arith, e, w.status-is))
      | else-ran-count w ↦ omega (arith, few, same, listed, held, w.if-ran-count, c.len-ran.ensures, c.len-count.ensures, ap length c.log.ensures.same)
    ]
