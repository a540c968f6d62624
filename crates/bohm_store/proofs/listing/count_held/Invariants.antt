use Rattle.std.proofs.Common.{◌≡◌, ◌≤◌, take}
use Rattle.bohm_store.specs.Numbered.{filled}
use Rattle.bohm_store.proofs.listing.count_held.Given as goal

abbrev pub invariant-loop-i : goal.invariant-loop-i
invariant-loop-i l = record {
  filled : l.count ≡ filled (take l.i l.newest);
  few : l.count ≤ l.i;
}
