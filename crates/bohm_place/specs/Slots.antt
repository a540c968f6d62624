-- The slots of transactions: one for each declared write, then one for each `show`.
use Rattle.std.specs.Prelude.{ℕ, zero, suc, ◌+◌, List, [], ◌∷◌, length}
use Rattle.bohm_types.specs.Txn.{Txn}
use Rattle.bohm_txn.specs.Declares.{shows_in}

-- slots of a transaction
abbrev pub most_slots : ℕ
most_slots = 32

-- the number of a transaction's slots
abbrev pub width : Txn → ℕ
width t = length t.writes + shows_in t.body

-- the number of slots before position i
abbrev pub offset : List Txn → ℕ → ℕ
offset ts zero = 0
offset [] (suc i) = 0
offset (t ∷ ts) (suc i) = width t + offset ts i
