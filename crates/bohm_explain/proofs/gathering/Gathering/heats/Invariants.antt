use Rattle.std.proofs.Common.{◌≡◌, ◌++◌, map}
use Rattle.bohm_explain.proofs.Listing.{entry_heat}
use Rattle.bohm_explain.proofs.gathering.Gathering.heats.Given as goal

abbrev pub invariant-loop-key : goal.invariant-loop-key
invariant-loop-key l = l.heats.items ++ map entry_heat l.key-iterator ≡ map entry_heat l.self.tallies.entries
