use Rattle.std.proofs.Common.{◌≡◌, ◌+◌, length, All, IsSome}
use Rattle.bohm_apply.proofs.executing.drain.Given as goal

abbrev pub invariant-loop : goal.invariant-loop
invariant-loop g l = (length l.receiver.notes ≡ length l.initial.receiver.notes + l.counter) × All (λ taken. IsSome taken.plan) l.receiver.notes
