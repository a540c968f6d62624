use Rattle.std.proofs.Common.{◌≡◌, ◌<◌, ℕ, All, length}
use Rattle.bohm_place.proofs.newest.Newest.several.Given as goal

abbrev pub invariant-loop : goal.invariant-loop
invariant-loop l = record {
  count : length l.several.items ≡ l.counter;
  unplanned : (t : ℕ) → All (λ a. All (λ p. p.begin < t) a) l.several.items;
}
