use Rattle.std.proofs.lemmas.Result.{on_ok_weaker}
use Rattle.bohm_requests.proofs.desk.RequestDesk.take_new.Goals as goal

pub returns-in-Err-Refused-clause-taken : goal.returns-in-Err-Refused-clause-taken
returns-in-Err-Refused-clause-taken g c =
    on_ok_weaker c.refuse-in-Err-Refused.result (λ taken. taken c.args.entry.now) c.refuse-in-Err-Refused.ensures.taken
