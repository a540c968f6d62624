-- The check of a document whose transactions arrive in chunks.
use Rattle.std.specs.Prelude.{◌≡◌, ◌⊎◌, ℤ, ℕ, ◌<◌, ◌≤◌, List, length, Option, Some, None, if◌then◌else◌}
use Rattle.std.specs.Option.{option_map}
use Rattle.bohm_types.specs.Document.{Document}
use Rattle.bohm_types.specs.Txn.{Txn}
use Rattle.bohm_types.specs.Keys.{rising, names_of}
use Rattle.bohm_txn.specs.declared.fault.CheckFault.{CheckFault}
use Rattle.bohm_txn.specs.declared.fault.CheckKind.TheVariants.{Order}
use Rattle.bohm_txn.specs.FirstFault.{first_in_doc, first_in_log, fault_of}
use Rattle.bohm_types.specs.Limits.{most_txns}

-- the fault of a store: its keys don't ascend
abbrev pub store_fault : List (List ℕ × ℤ) → Option CheckFault
store_fault store = if rising (names_of store) then None else Some (record { txn = 0; stmt = 0; kind = Order })

-- a count of n transactions, which is exact up to the most that a log may have
abbrev pub IsCountOf : ℕ → ℕ → Type 0
IsCountOf n count = (count ≡ n) ⊎ ((most_txns < n) × (most_txns < count))

-- the document's first fault, unless it has too many transactions
abbrev pub IsCheckedTo : Document → Option CheckFault → Type 0
IsCheckedTo d found = length d.log ≤ most_txns → found ≡ option_map fault_of (first_in_doc d)

-- the first fault of transactions, counted from the first of them, unless there are too many
abbrev pub IsLogCheckedTo : List Txn → Option CheckFault → Type 0
IsLogCheckedTo log found = length log ≤ most_txns → found ≡ option_map fault_of (first_in_log log)
