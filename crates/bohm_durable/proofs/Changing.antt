-- Keys that rise.
use Rattle.std.proofs.Common.{ℕ, Bool, List, Some, None}
use Rattle.std.specs.Prelude.{Option}
use Rattle.bohm_types.specs.Keys.{rises_from, rising}

-- keys rise from the last one, if there is one
abbrev pub rises_behind : Option (List ℕ) → List (List ℕ) → Bool
rises_behind None ks = rising ks
rises_behind (Some k) ks = rises_from k ks
