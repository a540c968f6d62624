use Rattle.std.proofs.Common.{◌≡◌, length}
use Rattle.bohm_place.specs.Chains.{AreEmpty}
use Rattle.bohm_place.proofs.shards.empty_parts.Given as goal

abbrev pub invariant-loop : goal.invariant-loop
invariant-loop l = (length l.parts.items ≡ l.counter) × AreEmpty l.parts.items
