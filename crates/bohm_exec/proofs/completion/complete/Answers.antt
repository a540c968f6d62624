use Rattle.std.proofs.Common.{◌<◌, ◌≤◌, ⊎_elim, ap, arith}
use Rattle.std.proofs.lemmas.Bool.{cases_lt}
use Rattle.bohm_board.specs.Closings.{status_in, unfinished_in}
use Rattle.bohm_board.proofs.ForCallers.{none_left}
use Rattle.bohm_exec.proofs.completion.complete.Goals as goal

pub new-requires-clause-whole : goal.new-requires-clause-whole
new-requires-clause-whole c t is = ⊎_elim
    (λ (lt : status_in c.args.closed t < 2). absurd (c.are_empty.ensures c.if-are_empty.true t (c.requires.aside t is lt)))
    (λ (le : 2 ≤ status_in c.args.closed t). le)
    (cases_lt (status_in c.args.closed t) 2)

pub returns-then-are_empty-clause-counted : goal.returns-then-are_empty-clause-counted
returns-then-are_empty-clause-counted c = omega (
  arith,
  c.new.ensures.evaluations,
  none_left c.new.result.closed c.new.result.whole,
  ap unfinished_in c.new.ensures.closed,
)

pub returns-clause-counted : goal.returns-clause-counted
returns-clause-counted c = omega (
  arith,
  c.new-2.ensures.evaluations,
  c.evaluations.ensures,
  c.loop-distance.invariant.counted,
  none_left c.new-2.result.closed c.new-2.result.whole,
  ap unfinished_in c.new-2.ensures.closed,
)
