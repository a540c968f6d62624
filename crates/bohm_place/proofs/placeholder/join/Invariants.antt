use Rattle.std.proofs.Common.{◌≡◌, ◌++◌, length, take, drop}
use Rattle.bohm_place.specs.Shares.{greater}
use Rattle.bohm_place.proofs.placeholder.join.Given as goal

abbrev pub invariant-loop-i : goal.invariant-loop-i
invariant-loop-i l = record {
  long : length l.found ≡ length l.initial.found;
  joined : take l.i l.found ++ greater (drop l.i l.found) (drop l.i l.more) ≡ greater l.initial.found l.more;
}
