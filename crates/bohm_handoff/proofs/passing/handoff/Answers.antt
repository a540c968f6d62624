use Rattle.std.proofs.Common.{rules}
use Rattle.bohm_handoff.proofs.Steps.{begins}
use Rattle.bohm_handoff.proofs.passing.handoff.Goals as goal

pub store-requires : goal.store-requires
store-requires g c =
    let made = c.in_ok-table.ensures in
    (search rules, search rules, rw (made.1, made.3, made.4) (begins (g.P.Promise.kept_by c.in_ok-table.table.shared.key) c.args.promise.now))
