-- Transactions that commit over every store, with the same cells.
use Rattle.std.specs.Prelude.{◌≡◌, ℕ, List, [], Bool, true, false, ◌&&◌, Option, Some, None, is_ok}
use Rattle.std.specs.List.{list_all, list_any}
use Rattle.std.specs.Str.{bytes_eq}
use Rattle.bohm_types.specs.declared.cell.Cell.TheVariants.{Absent}
use Rattle.bohm_types.specs.Stmt.{Cond, Stmt, Bind, Need, Has, Lacks, Put, Remove, Show, Fail}
use Rattle.bohm_types.specs.Term.{Atom, Lit, Read, Local}
use Rattle.bohm_types.specs.Txn.{Txn}
use Rattle.bohm_types.specs.Parts.{target}
use Rattle.bohm_types.specs.Keys.{some_passes}
use Rattle.bohm_txn.specs.Meaning.{sum_value}

abbrev pub is_lit : Atom → Bool
is_lit (Lit n) = true
is_lit (Read k) = false
is_lit (Local x) = false

-- only literals, with a total in range
abbrev pub is_sure_sum : List (Bool × Atom) → Bool
is_sure_sum sum = list_all (λ t. is_lit t.1) sum && is_ok (sum_value (λ _. Absent) [] sum)

abbrev pub is_sure_put : List (Bool × Atom) → Option Cond → Bool
is_sure_put sum None = is_sure_sum sum
is_sure_put sum (Some c) = false

abbrev pub is_sure_stmt : Stmt → Bool
is_sure_stmt (Bind x sum) = false
is_sure_stmt (Need c) = false
is_sure_stmt (Has k) = false
is_sure_stmt (Lacks k) = false
is_sure_stmt (Put k sum guard) = is_sure_put sum guard
is_sure_stmt (Remove k) = true
is_sure_stmt (Show sum) = is_sure_sum sum
is_sure_stmt Fail = false

-- a statement of the body writes the key
abbrev pub is_target : List Stmt → List ℕ → Bool
is_target body k = list_any (λ s. some_passes (λ x. bytes_eq x k) (target s)) body

abbrev pub is_sure : Txn → Bool
is_sure t = list_all is_sure_stmt t.body && list_all (is_target t.body) t.writes

abbrev pub IsSure : Txn → Type 0
IsSure t = is_sure t ≡ true
