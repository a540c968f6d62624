-- All faults of a document with their lines, by recursion on its lists.
use Rattle.std.specs.Prelude.{◌≡◌, ℕ, ◌+◌, List, [], ◌∷◌, ◌++◌, take, Bool, if◌then◌else◌, slice_get, IsSomeAnd}
use Rattle.bohm_types.specs.Stmt.{Stmt}
use Rattle.bohm_types.specs.Txn.{Txn}
use Rattle.bohm_types.specs.Document.{Document}
use Rattle.bohm_txn.specs.declared.fault.CheckKind.{CheckKind}
use Rattle.bohm_txn.specs.declared.fault.CheckKind.TheVariants.{Order, Unread, Unwritten, Local, Limit}
use Rattle.bohm_txn.specs.Faulty.{whole_faulty, sets_faulty, stmt_faulty}
use Rattle.bohm_check.specs.declared.told.Told.{Told}
use Rattle.bohm_check.specs.Lines.{opening_line, sets_line, whole_line}

abbrev pub told_of : ℕ → ℕ → CheckKind → ℕ → Told
told_of t s kind line = record { fault = record { txn = t; stmt = s; kind = kind }; line = line }

abbrev pub told_if : Bool → Told → List Told
told_if there told = if there then told ∷ [] else []

-- the faults of the kinds that pass at a place, in the order of the kinds
abbrev pub kinds_told : ℕ → ℕ → (CheckKind → Bool) → (CheckKind → ℕ) → List Told
kinds_told t s passes line =
    told_if (passes Order) (told_of t s Order (line Order))
    ++ (told_if (passes Unread) (told_of t s Unread (line Unread))
    ++ (told_if (passes Unwritten) (told_of t s Unwritten (line Unwritten))
    ++ (told_if (passes Local) (told_of t s Local (line Local))
    ++ told_if (passes Limit) (told_of t s Limit (line Limit)))))

-- the faults reported of each element by its index, counted from i
abbrev pub each_from : {A : Type 0} → (ℕ → A → List Told) → ℕ → List A → List Told
each_from tell i [] = []
each_from tell i (x ∷ xs) = tell i x ++ each_from tell (i + 1) xs

abbrev pub stmt_told : Txn → ℕ → ℕ → ℕ → Stmt → List Told
stmt_told t number opening i s = kinds_told number (i + 1) (stmt_faulty t (take i t.body) s) (λ kind. opening + 3 + i)

abbrev pub body_told : Txn → ℕ → ℕ → ℕ → List Stmt → List Told
body_told t number opening = each_from (stmt_told t number opening)

abbrev pub txn_told : ℕ → ℕ → Txn → List Told
txn_told number opening t = kinds_told number 0 (sets_faulty t) (sets_line t opening) ++ body_told t number opening 0 t.body

abbrev pub log_told : Document → ℕ → List Txn → List Told
log_told d = each_from (λ i. txn_told (i + 1) (opening_line d i))

abbrev pub doc_told : Document → List Told
doc_told d = kinds_told 0 0 (whole_faulty d) (whole_line d) ++ log_told d 0 d.log

-- faults that are listed
abbrev pub most_told : ℕ
most_told = 20

-- the listed ones are those of the faults before with these appended
abbrev pub AreTold : List Told → List Told → List Told → Type 0
AreTold before more now = take most_told now ≡ take most_told (before ++ more)

-- there is a statement with this index, and it satisfies this
abbrev pub stmt_at : Txn → ℕ → (Stmt → Type 0) → Type 0
stmt_at t i P = IsSomeAnd (slice_get t.body i) P
