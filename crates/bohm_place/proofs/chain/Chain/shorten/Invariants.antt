use Rattle.std.proofs.Common.{◌≡◌, length}
use Rattle.bohm_place.specs.Chains.{items, kept_items}
use Rattle.bohm_place.proofs.chain.Chain.shorten.Given as goal

abbrev pub invariant-loop-second : goal.invariant-loop-second
invariant-loop-second l = kept_items l.floor (items l.self) ≡ kept_items l.floor (items l.initial.self)

abbrev pub decreases-loop-second : goal.decreases-loop-second
decreases-loop-second l = length l.self.older.items
