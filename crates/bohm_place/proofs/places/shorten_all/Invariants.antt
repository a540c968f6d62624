use Rattle.std.proofs.Common.{◌≡◌, ℕ, ◌<◌, ◌≤◌, List, length, take, drop, if◌then◌else◌, ◌⊎◌}
use Rattle.bohm_types.specs.Keys.{is_among, IsAmong}
use Rattle.bohm_place.specs.Chains.{items_at, kept_items}
use Rattle.bohm_place.proofs.places.shorten_all.Given as goal

abbrev pub invariant-loop-i : goal.invariant-loop-i
invariant-loop-i l = record {
  front : l.kept ≤ l.i;
  same_length : length l.long.items ≡ length l.initial.long.items;
  rest : drop l.i l.long.items ≡ drop l.i l.initial.long.items;
  chains : (k : List ℕ) → items_at l.chains k ≡ (if is_among (take l.i l.initial.long.items) k then kept_items l.floor (items_at l.initial.chains k)
      else items_at l.initial.chains k);
  listed : (k : List ℕ) → 1 < length (items_at l.chains k) → IsAmong (take l.kept l.long.items) k ⊎ IsAmong (drop l.i l.initial.long.items) k;
}
