use Rattle.std.proofs.Common.{◌≡◌, ◌++◌, ℕ, take}
use Rattle.bohm_store.specs.Chains.{newest_only}
use Rattle.bohm_store.specs.Held.{held_at}
use Rattle.bohm_store.specs.Writes.{listed_in, versions_by}
use Rattle.bohm_store.proofs.replacing.replace_all.Given as goal

abbrev pub invariant-loop-i : goal.invariant-loop-i
invariant-loop-i l = (n : ℕ) → held_at l.newest n ≡ newest_only (held_at l.initial.newest n ++ versions_by (take l.i (listed_in l.writes)) n)
