use Rattle.std.proofs.Common.{◌≡◌, ◌++◌, ◌-◌, ◌<◌, ◌≤◌, ℕ, All, length, take, drop}
use Rattle.bohm_store.specs.Held.{held_at}
use Rattle.bohm_store.specs.Numbered.{EndsRise, IsLinked, older_of}
use Rattle.bohm_store.specs.Writes.{ClimbTo, listed_in, versions_by}
use Rattle.bohm_store.proofs.older.displace_all.Given as goal

abbrev pub invariant-loop-i : goal.invariant-loop-i
invariant-loop-i l = record {
  room : length (listed_in l.writes) - l.i ≤ l.older.room;
  places : length l.newest ≤ l.older.places;
  versions : (n : ℕ) → IsLinked l.initial.older.items n (held_at l.initial.newest n)
      → (older_of l.older.items n ++ held_at l.newest n
      ≡ (older_of l.initial.older.items n ++ held_at l.initial.newest n) ++ versions_by (take l.i (listed_in l.writes)) n)
      × IsLinked l.older.items n (held_at l.newest n);
  climbs : (n top : ℕ) → EndsRise n l.initial.older.items → ClimbTo n top (listed_in l.writes)
      → (m : ℕ) × (n ≤ m) × EndsRise m l.older.items × ClimbTo m top (drop l.i (listed_in l.writes))
      × ((floor : ℕ) → All (λ o. floor < o.end) l.initial.older.items → floor < n → All (λ o. floor < o.end) l.older.items);
}
