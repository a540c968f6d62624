use Rattle.std.proofs.Common.{◌≡◌, ◌++◌, take, drop}
use Rattle.bohm_check.specs.All.{body_told}
use Rattle.bohm_check.specs.Scopes.{IsScopeOf}
use Rattle.bohm_check.proofs.finding.tell_body.Given as goal

abbrev pub invariant-loop-index : goal.invariant-loop-index
invariant-loop-index l = IsScopeOf l.txn l.index l.scope × (take 20 (l.told ++ body_told l.txn l.number l.opening l.index (drop l.index l.txn.body)) ≡ take 20
    (l.initial.told ++ body_told l.txn l.number l.opening 0 l.txn.body))
