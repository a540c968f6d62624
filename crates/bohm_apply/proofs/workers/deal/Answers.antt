use Rattle.std.proofs.Common.{◌≡◌, ◌∷◌, [], refl, ◌∙◌, length-append, arith}
use Rattle.std.proofs.lemmas.List.Elements.{All-push}
use Rattle.bohm_place.proofs.ForCallers.{each_pushed}
use Rattle.bohm_apply.specs.declared.workers.job.Job.{Job}
use Rattle.bohm_apply.specs.Sweeps.{IsReady}
use Rattle.bohm_apply.proofs.workers.deal.Goals as goal

pub loop-number-preserved : goal.loop-number-preserved
loop-number-preserved c =
    let was = c.loop-number.invariant in
    let n = c.loop-number.number in
    let jobs = c.loop-number.jobs.items in
    let views = c.split-rest.ensures.views in
    let own = c.split-rest.ensures.own in
    let job : Job = record { worker = record { number = n; count = c.args.workers }; pass = c.split-rest.result.1; scratch = c.take.result } in
    rw c.in_ok-push.ensures.items (record {
      own = own.0;
      free = rw views.0 was.free;
      unused = rw views.0 was.unused;
      scratches = omega (arith, was.scratches, c.take.ensures.rest);
      count = omega (arith, length-append jobs (job ∷ []), was.count);
      ready = All-push (IsReady c.args.board.now) jobs job was.ready (record { own = own.1; free = rw views.1 was.free; unused = rw views.1 refl; worker = c.loop-number-test.true });
      workers = λ w d low. each_pushed (λ v (j : Job). j.worker ≡ record { number = v; count = c.args.workers }) jobs job
          (λ v e l. was.workers v e (omega (arith, l, was.count))) (rw was.count refl) w d (omega (arith, low, was.count));
      pool = c.take.ensures.count ∙ was.pool;
    })
