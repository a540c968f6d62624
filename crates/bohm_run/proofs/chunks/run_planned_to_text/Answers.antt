use Rattle.std.proofs.Common.{◌≡◌, ◌+◌, ◌++◌, subst}
use Rattle.bohm_txn.specs.Serial.{replies}
use Rattle.bohm_store.specs.Versions.{past}
use Rattle.bohm_text.specs.Print.{print_numbered}
use Rattle.bohm_place.specs.Cuttings.{Cutting}
use Rattle.bohm_apply.specs.Runs.{IsApplied}
use Rattle.bohm_run.proofs.chunks.run_planned_to_text.Goals as goal

pub returns-clause-run : goal.returns-clause-run
returns-clause-run g c =
    let was = c.args.history.now in
    let look = past was was.top in
    record {
      answered = replies look c.args.txns.now;
      applied = subst (λ (k : Cutting). IsApplied was c.run_planned.new.history k.log c.args.executor.now.keep (replies look k.log)) c.new-log.ensures
          c.in_ok-run_planned.ensures.applied;
      wrote = subst (λ (k : Cutting). c.run_planned.new.answered ≡ c.args.text.now ++ print_numbered (was.top + 1) (replies look k.log)) c.new-log.ensures
          c.in_ok-run_planned.ensures.answered;
    }
