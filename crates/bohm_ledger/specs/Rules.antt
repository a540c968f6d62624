-- What batches of entries mean, one after another.
use Rattle.std.specs.Prelude.{◌≡◌, ℕ, ℤ, ◌+◌, Bool, true, List, [], ◌∷◌, ◌++◌, map, if◌then◌else◌}
use Rattle.std.specs.Str.{bytes_eq}
use Rattle.bohm_types.specs.declared.cell.Cell.{Cell}
use Rattle.bohm_types.specs.declared.edition.Edition.{Edition}
use Rattle.bohm_types.specs.declared.cell.Cell.TheVariants.{Absent, Present}
use Rattle.sqlite_value.specs.Order.{Row}
use Rattle.bohm_ledger.specs.Rows.{request_row}

-- what each key holds
abbrev pub Look : Type 0
Look = List ℕ → Cell

abbrev pub nothing : Look
nothing k = Absent

-- what each key holds in a list of entries, of which the first one of a key counts
abbrev pub cells : List (List ℕ × ℤ) → Look
cells [] k = Absent
cells (e ∷ es) k = if bytes_eq e.0 k then Present e.1 else cells es k

-- the definitions so far, what each key holds, and the number of the last transaction
pub record State (Defs : Type 0) : Type 0 where
  pub defs : Defs
  pub look : Look
  pub top : ℕ

-- what a batch does, which is its text
pub record Rules (Defs : Type 0) : Type 0 where
  -- the definitions before any batch of an edition
  pub start : Edition → Defs
  -- the definitions after a batch
  pub define : Defs → List ℕ → Defs
  -- what each key holds after a batch
  pub act : Defs → Look → List ℕ → Look
  -- the number of its transactions
  pub size : List ℕ → ℕ
  -- whether it has no definition
  pub is_plain : List ℕ → Bool
  -- the ids of its entries, each with the answer
  pub answers : State Defs → List ℕ → List (List ℕ × List ℕ)

-- what the rules have to meet: a batch with no definition leaves the definitions, and one with no transaction leaves the keys
pub record AreRules {Defs : Type 0} (rules : Rules Defs) : Type 0 where
  pub plain : (defs : Defs) (b : List ℕ) → rules.is_plain b ≡ true → rules.define defs b ≡ defs
  pub still : (defs : Defs) (look : Look) (b : List ℕ) → rules.size b ≡ 0 → rules.act defs look b ≡ look

-- before any batch
abbrev pub origin : {Defs : Type 0} → Rules Defs → Edition → State Defs
origin rules edition = record { defs = rules.start edition; look = nothing; top = 0 }

-- after one batch more
abbrev pub after : {Defs : Type 0} → Rules Defs → State Defs → List ℕ → State Defs
after rules s b = record { defs = rules.define s.defs b; look = rules.act s.defs s.look b; top = s.top + rules.size b }

-- the serial run: after these batches, the first of them first
abbrev pub run : {Defs : Type 0} → Rules Defs → State Defs → List (List ℕ) → State Defs
run rules s [] = s
run rules s (b ∷ bs) = run rules (after rules s b) bs

-- the number of transactions in these batches
abbrev pub total : {Defs : Type 0} → Rules Defs → List (List ℕ) → ℕ
total rules [] = 0
total rules (b ∷ bs) = rules.size b + total rules bs

-- the rows of the ids of these batches, of which the first has this place
abbrev pub requests : {Defs : Type 0} → Rules Defs → ℕ → State Defs → List (List ℕ) → List Row
requests rules place s [] = []
requests rules place s (b ∷ bs) = map (request_row place) (rules.answers s b) ++ requests rules (place + 1) (after rules s b) bs
