use Rattle.std.proofs.Common.{ap, arith, length}
use Rattle.bohm_c.proofs.Opening.{on_document}
use Rattle.bohm_c.proofs.session.restore.Goals as goal

pub returns-in-Ok-clause-ok : goal.returns-in-Ok-clause-ok
returns-in-Ok-clause-ok c =
    on_document c.args.snapshot.now c.store.result.now c.args.top c.in-Ok.session c.store.ensures.same
    (omega (arith, c.if-len-gt0.false, c.len.ensures, ap length c.log.ensures.same)) c.in-Ok.ensures
