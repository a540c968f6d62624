-- The outcomes and cells of transactions that run one after another.
use Rattle.std.specs.Prelude.{ℕ, zero, suc, ◌+◌, ℤ, List, [], ◌∷◌, ◌++◌, map}
use Rattle.bohm_types.specs.declared.cell.Cell.{Cell}
use Rattle.bohm_types.specs.declared.cell.Cell.TheVariants.{Absent, Present}
use Rattle.bohm_types.specs.Txn.{Txn}
use Rattle.bohm_txn.specs.declared.outcome.Outcome.{Outcome}
use Rattle.bohm_txn.specs.Declares.{shows_in}
use Rattle.bohm_txn.specs.Meaning.{Look, body}
use Rattle.bohm_txn.specs.Serial.{after, outcome_of, shows_of}
use Rattle.bohm_board.specs.declared.knowledge.RightSlot.{RightSlot}

-- n cells: those of the values, then absent ones
abbrev pub show_cells : ℕ → List ℤ → List Cell
show_cells zero zs = []
show_cells (suc n) [] = Absent ∷ show_cells n []
show_cells (suc n) (z ∷ zs) = Present z ∷ show_cells n zs

-- a transaction's own cells: for each declared write the key's cell after it, then for each `show` its value, or absence on an abort
abbrev pub own_cells : Look → Txn → List Cell
own_cells look t = map (after look t) t.writes ++ show_cells (shows_in t.body) (shows_of (body look t))

abbrev pub slot_at : ℕ → ℕ → Cell → RightSlot
slot_at t j c = record { slot = record { txn = t; index = j }; cell = c }

-- the slots of the transaction with the timestamp t, from index j on
abbrev pub slots_of : ℕ → ℕ → List Cell → List RightSlot
slots_of t j [] = []
slots_of t j (c ∷ cs) = slot_at t j c ∷ slots_of t (suc j) cs

-- the slots of these transactions, the first of which has the timestamp t
abbrev pub slots_from : ℕ → Look → List Txn → List RightSlot
slots_from t look [] = []
slots_from t look (x ∷ xs) = slots_of t 0 (own_cells look x) ++ slots_from (t + 1) (after look x) xs

abbrev pub outcomes : Look → List Txn → List Outcome
outcomes look [] = []
outcomes look (t ∷ ts) = outcome_of (body look t) ∷ outcomes (after look t) ts
