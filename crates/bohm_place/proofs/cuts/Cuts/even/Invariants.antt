use Rattle.std.proofs.Common.{◌≡◌, replicate}
use Rattle.bohm_place.proofs.cuts.Cuts.even.Given as goal

abbrev pub invariant-loop : goal.invariant-loop
invariant-loop l = l.sizes.items ≡ replicate l.counter l.batch
