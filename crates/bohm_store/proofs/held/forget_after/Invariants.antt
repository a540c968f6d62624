use Rattle.std.proofs.Common.{◌≡◌, ◌<◌, ◌≤◌, ℕ}
use Rattle.bohm_store.specs.Versions.{versions_to}
use Rattle.bohm_store.specs.Held.{held_at}
use Rattle.bohm_store.proofs.held.forget_after.Given as goal

abbrev pub invariant-loop-i : goal.invariant-loop-i
invariant-loop-i l = record {
  done : (n : ℕ) → n < l.i → held_at l.newest n ≡ versions_to l.ts (held_at l.initial.newest n);
  left : (n : ℕ) → l.i ≤ n → held_at l.newest n ≡ held_at l.initial.newest n;
}
