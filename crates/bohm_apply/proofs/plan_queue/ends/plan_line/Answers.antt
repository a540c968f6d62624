use Rattle.std.proofs.Common.{rules}
use Rattle.bohm_apply.proofs.Moves.{begins, forks}
use Rattle.bohm_apply.proofs.plan_queue.ends.plan_line.Goals as goal

pub bounded_with-requires-clause-rule : goal.bounded_with-requires-clause-rule
bounded_with-requires-clause-rule g c = begins g.L.Line.cutting

pub another-other-requires-clause-rule : goal.another-other-requires-clause-rule
another-other-requires-clause-rule g c = forks g.L.Line.cutting _ _ (search rules) (search rules)
