use Rattle.std.proofs.Common.{sym, ◌∙◌, arith}
use Rattle.sqlite_trees.specs.View.{IsClean}
use Rattle.bohm_requests.proofs.Collecting.{one_taken}
use Rattle.bohm_requests.proofs.desk.RequestDesk.collect.Goals as goal

pub requests-preserved : goal.requests-preserved
requests-preserved g c =
    let was = c.requests.invariant in
    let take = c.in_ok-take.ensures in
    record {
      taken = one_taken _ _ _ _ _ _ _ _ was.taken c.in-Some.ensures.bytes take.taken;
      machine = take.machine ∙ was.machine;
      edition = take.edition ∙ was.edition;
      clean = omega (arith, was.clean, take.clean);
      ready = λ clean bs ready.
          let before : IsClean (g.S.Store.view c.requests.self.ledger.store) = omega (arith, clean, take.clean) in
          rw (sym was.edition) (take.ready clean bs (rw was.edition (was.ready before bs ready)));
      any_moment = λ db left. was.any_moment db (take.any_moment db left);
    }
