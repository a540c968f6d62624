use Rattle.bohm_handoff.proofs.ends.Taker.take.Given as goal

abbrev pub invariant-loop : goal.invariant-loop
invariant-loop g l = Unit {0}
