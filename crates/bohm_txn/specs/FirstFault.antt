-- The first fault, by recursion on the lists.
use Rattle.std.specs.Prelude.{ℕ, ◌+◌, List, [], ◌∷◌, take, Bool, Option, Some, None, if◌then◌else◌}
use Rattle.std.specs.Option.{option_map}
use Rattle.bohm_txn.specs.declared.fault.CheckFault.{CheckFault}
use Rattle.bohm_txn.specs.declared.fault.CheckKind.{CheckKind}
use Rattle.bohm_txn.specs.declared.fault.CheckKind.TheVariants.{Order, Unread, Unwritten, Local, Limit}
use Rattle.bohm_types.specs.Stmt.{Stmt}
use Rattle.bohm_types.specs.Txn.{Txn}
use Rattle.bohm_types.specs.Document.{Document}
use Rattle.bohm_txn.specs.Faulty.{whole_faulty, sets_faulty, stmt_faulty}

-- the least kind that passes
abbrev pub least : (CheckKind → Bool) → Option CheckKind
least p = if p Order then Some Order else (if p Unread then Some Unread
    else (if p Unwritten then Some Unwritten else (if p Local then Some Local else (if p Limit then Some Limit else None))))

-- what is found at index n, or else later
abbrev pub found_or : {B : Type 0} → ℕ → Option B → Option (ℕ × B) → Option (ℕ × B)
found_or n (Some b) later = Some (n, b)
found_or n None later = later

-- the first index, counted from i + 1, at which the search finds something
abbrev pub first_from : {A B : Type 0} → (ℕ → A → Option B) → ℕ → List A → Option (ℕ × B)
first_from find i [] = None
first_from find i (x ∷ xs) = found_or (i + 1) (find i x) (first_from find (i + 1) xs)

abbrev pub find_stmt : Txn → ℕ → Stmt → Option CheckKind
find_stmt t i s = least (stmt_faulty t (take i t.body) s)

abbrev pub first_in_body : Txn → Option (ℕ × CheckKind)
first_in_body t = first_from (find_stmt t) 0 t.body

abbrev pub first_in_txn : Txn → Option (ℕ × CheckKind)
first_in_txn t = found_or 0 (least (sets_faulty t)) (first_in_body t)

abbrev pub find_txn : ℕ → Txn → Option (ℕ × CheckKind)
find_txn i t = first_in_txn t

abbrev pub first_in_log : List Txn → Option (ℕ × (ℕ × CheckKind))
first_in_log log = first_from find_txn 0 log

abbrev pub first_in_doc : Document → Option (ℕ × (ℕ × CheckKind))
first_in_doc d = found_or 0 (option_map (λ kind. (0, kind)) (least (whole_faulty d))) (first_in_log d.log)

abbrev pub fault_of : (ℕ × (ℕ × CheckKind)) → CheckFault
fault_of p = record { txn = p.0; stmt = p.1.0; kind = p.1.1 }
