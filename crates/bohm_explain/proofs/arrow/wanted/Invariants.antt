use Rattle.std.proofs.Common.{◌≡◌, ◌≤◌, ◌*◌, length}
use Rattle.bohm_explain.specs.Wanted.{arrows_below}
use Rattle.bohm_explain.proofs.arrow.wanted.Given as goal

abbrev pub invariant-loop-to : goal.invariant-loop-to
invariant-loop-to l = record { arrows : l.out.items ≡ arrows_below l.txns l.to; few : length l.out.items ≤ 32 * l.to }
