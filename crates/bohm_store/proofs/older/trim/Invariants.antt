use Rattle.std.proofs.Common.{◌≡◌, ◌++◌, ℕ, List, length}
use Rattle.bohm_store.specs.declared.version.Version.{Version}
use Rattle.bohm_store.specs.Versions.{kept_versions}
use Rattle.bohm_store.specs.Numbered.{EndsRise, IsLinked, older_of}
use Rattle.bohm_store.proofs.older.trim.Given as goal

abbrev pub invariant-loop : goal.invariant-loop
invariant-loop l = record {
  versions : (n : ℕ) (held : List Version) → IsLinked l.initial.older.items n held
      → (kept_versions l.floor (older_of l.older.items n ++ held) ≡ kept_versions l.floor (older_of l.initial.older.items n ++ held))
      × IsLinked l.older.items n held;
  climbs : (top : ℕ) → EndsRise top l.initial.older.items → EndsRise top l.older.items;
}

abbrev pub decreases-loop : goal.decreases-loop
decreases-loop l = length l.older.items
