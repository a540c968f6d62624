use Rattle.std.proofs.Common.{◌≡◌, ℕ, length}
use Rattle.bohm_store.specs.Numbered.{EndsRise, ended_by}
use Rattle.bohm_store.proofs.older.cut_off.Given as goal

abbrev pub invariant-loop : goal.invariant-loop
invariant-loop l =
    (top : ℕ) → EndsRise top l.initial.older.items
    → EndsRise top l.older.items × (ended_by l.ts l.older.items ≡ ended_by l.ts l.initial.older.items)

abbrev pub decreases-loop : goal.decreases-loop
decreases-loop l = length l.older.items
