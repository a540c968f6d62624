-- What opening makes of a ledger's rows.
use Rattle.std.specs.Prelude.{◌≡◌, ◌⊎◌, ℕ, ◌+◌, ◌≤◌, List, [], ◌∷◌, nat_lt, if◌then◌else◌, ⊤}
use Rattle.sqlite_value.specs.Order.{Row}
use Rattle.bohm_ledger.specs.Rows.{batch_row, place_of, first_of, text_of}
use Rattle.bohm_ledger.specs.Rules.{State, Rules, after}

-- a batch whose transactions are all at or below the checkpoint isn't run again: only its definitions count
abbrev pub passed : {Defs : Type 0} → Rules Defs → State Defs → List ℕ → State Defs
passed rules s b = record { defs = rules.define s.defs b; look = s.look; top = s.top }

abbrev pub taken : {Defs : Type 0} → Rules Defs → ℕ → State Defs → Row → State Defs
taken rules checkpoint s row = if nat_lt (checkpoint + 1) (first_of row + rules.size (text_of row)) then after rules s
    (text_of row) else passed rules s (text_of row)

-- the state after these rows
abbrev pub loaded : {Defs : Type 0} → Rules Defs → ℕ → State Defs → List Row → State Defs
loaded rules checkpoint s [] = s
loaded rules checkpoint s (row ∷ rows) = loaded rules checkpoint (taken rules checkpoint s row) rows

-- the place of the next batch
abbrev pub next_place : ℕ → List Row → ℕ
next_place place [] = place
next_place place (row ∷ rows) = next_place (place_of row + 1) rows

-- a row of a batch, which isn't run or is the next one to be run
pub record FitsRow {Defs : Type 0} (rules : Rules Defs) (checkpoint : ℕ) (s : State Defs) (row : Row) : Type 0 where
  pub is : row ≡ batch_row (place_of row) (first_of row) (text_of row)
  pub next : (first_of row + rules.size (text_of row) ≤ checkpoint + 1) ⊎ (first_of row ≡ s.top + 1)

-- the rows are such rows
abbrev pub Fit : {Defs : Type 0} → Rules Defs → ℕ → State Defs → List Row → Type 0
Fit rules checkpoint s [] = ⊤
Fit rules checkpoint s (row ∷ rows) = FitsRow rules checkpoint s row × Fit rules checkpoint (taken rules checkpoint s row) rows
