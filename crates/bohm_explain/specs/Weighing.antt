-- The weight of a transaction: the number of terms of its body, or 1 if it has none.
use Rattle.std.specs.Prelude.{ℕ, ◌+◌, List, length, map, max, sum_by}
use Rattle.bohm_types.specs.Stmt.{Stmt}
use Rattle.bohm_types.specs.Txn.{Txn}
use Rattle.bohm_types.specs.Parts.{sums}

abbrev pub terms_in : Stmt → ℕ
terms_in s = sum_by length (sums s)

abbrev pub weight : Txn → ℕ
weight t = max 1 (sum_by terms_in t.body)

abbrev pub weights : List Txn → List ℕ
weights txns = map weight txns

-- the number of keys that it declares to read, plus the number of those that it declares to write
abbrev pub declared_by : Txn → ℕ
declared_by t = length t.reads + length t.writes
