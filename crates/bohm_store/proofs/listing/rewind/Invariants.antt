use Rattle.std.proofs.Common.{◌≡◌, ◌<◌, ◌≤◌, ℕ, drop, length}
use Rattle.bohm_store.specs.Held.{held_at}
use Rattle.bohm_store.specs.Numbered.{first_after}
use Rattle.bohm_store.proofs.listing.rewind.Given as goal

abbrev pub invariant-loop-i : goal.invariant-loop-i
invariant-loop-i l = record {
  inside : l.i ≤ length l.older.items;
  held : (n : ℕ) → n < length l.initial.newest → held_at l.newest n ≡ first_after l.ts (drop l.i l.older.items) n (held_at l.initial.newest n);
}

abbrev pub decreases-loop-i : goal.decreases-loop-i
decreases-loop-i l = l.i
