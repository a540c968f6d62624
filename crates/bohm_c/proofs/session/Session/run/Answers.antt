use Rattle.std.proofs.Common.{◌+◌, ◌≤◌, ap, ◌∙◌, length, arith}
use Rattle.bohm_text.specs.Print.{print_numbered}
use Rattle.bohm_machine.specs.Machines.{now_of}
use Rattle.bohm_c.proofs.Ran.{no_more}
use Rattle.bohm_c.proofs.session.Session.run.Goals as goal

pub hand_out-requires-clause-few : goal.hand_out-requires-clause-few
hand_out-requires-clause-few c =
    let few = no_more (now_of c.args.self.now.machine) c.args.segment.now.log c.in-Ok.applied.replies c.in-Ok.ensures.goes_on.replies in
    omega (arith, few, c.len.ensures, ap length c.log.ensures.same)

pub returns-in-Ok-clause-done : goal.returns-in-Ok-clause-done
returns-in-Ok-clause-done c = λ e.
    let applied = c.in-Ok.applied in
    let ran = c.in-Ok.ensures in
    let few : c.hand_out.result ≤ 10 = omega (arith, e) in
    record {
      answered = applied.replies;
      run = record {
        waited = c.requires;
        taken = ran.taken;
        goes_on = rw c.hand_out.ensures.machine ran.goes_on;
        runs_on = rw c.hand_out.ensures.machine ran.runs_on;
        batches = ran.batches;
        names = c.hand_out.ensures.names;
      };
      whole = omega (arith, c.hand_out.ensures.done e, c.len.ensures, ap length c.log.ensures.same);
      says = c.hand_out.ensures.says few ∙ ap (λ n. print_numbered (n + 1) applied.replies) c.top-behind.ensures.top;
      handed = c.hand_out.ensures.handed few;
    }
