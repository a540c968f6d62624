use Rattle.std.proofs.Common.{◌≡◌, ℕ, ◌<◌, ◌≤◌, slice_get}
use Rattle.bohm_place.proofs.Placed.{KeptParts}
use Rattle.bohm_place.proofs.shards.trim_parts.Given as goal

abbrev pub invariant-loop-i : goal.invariant-loop-i
invariant-loop-i l = ((j : ℕ) → j < l.i → KeptParts l.floor (slice_get l.initial.parts j) (slice_get l.parts j))
    × ((j : ℕ) → l.i ≤ j → slice_get l.parts j ≡ slice_get l.initial.parts j)
