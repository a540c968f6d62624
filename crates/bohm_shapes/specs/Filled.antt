-- The transaction that a shape is for some keys and values.
use Rattle.std.specs.Prelude.{ℕ, suc, ℤ, pos, negsuc, List, ◌++◌, map, Bool, true, false, Some, None}
use Rattle.bohm_types.specs.Term.{Atom, Lit, Read}
use Rattle.bohm_types.specs.Term as atoms
use Rattle.bohm_types.specs.Stmt.{Stmt}
use Rattle.bohm_types.specs.Stmt as stmts
use Rattle.bohm_types.specs.Txn.{Txn}
use Rattle.bohm_types.specs.Procedure.{lets}
use Rattle.bohm_log.specs.Parts.{name_at}
use Rattle.bohm_shapes.specs.declared.shape.Term.{Term}
use Rattle.bohm_shapes.specs.declared.shape.Term.TheVariants.{Number, Slot, Local}
use Rattle.bohm_shapes.specs.declared.shape.Step.{Step}
use Rattle.bohm_shapes.specs.declared.shape.Step.TheVariants.{Let, Need, Has, Lacks, Set, SetWhen, Remove, Show, Fail}
use Rattle.bohm_shapes.specs.declared.shape.Shape.{Shape}

-- a number as a term: its sign, and the literal of its size
abbrev pub number_term : ℤ → Bool × Atom
number_term (pos n) = (false, Lit n)
number_term (negsuc n) = (true, Lit (suc n))

-- whether a term is subtracted: a number has its sign in it
abbrev pub is_minus : Term → Bool
is_minus (Number v) = false
is_minus (Slot minus i) = minus
is_minus (Local minus i) = minus

abbrev pub term_filled : List (List ℕ) → List (List ℕ) → Term → Bool × Atom
term_filled locals keys (Number v) = number_term v
term_filled locals keys (Slot minus i) = (minus, Read (name_at keys i))
term_filled locals keys (Local minus i) = (minus, atoms.Local (name_at locals i))

abbrev pub sum_filled : List (List ℕ) → List (List ℕ) → List Term → List (Bool × Atom)
sum_filled locals keys terms = map (term_filled locals keys) terms

abbrev pub stmt_filled : List (List ℕ) → List (List ℕ) → Step → Stmt
stmt_filled locals keys (Let i sum) = stmts.Bind (name_at locals i) (sum_filled locals keys sum.items)
stmt_filled locals keys (Need left cmp right) = stmts.Need
    (record { left = sum_filled locals keys left.items; cmp = cmp; right = sum_filled locals keys right.items })
stmt_filled locals keys (Has i) = stmts.Has (name_at keys i)
stmt_filled locals keys (Lacks i) = stmts.Lacks (name_at keys i)
stmt_filled locals keys (Set i sum) = stmts.Put (name_at keys i) (sum_filled locals keys sum.items) None
stmt_filled locals keys (SetWhen i sum left cmp right) = stmts.Put (name_at keys i) (sum_filled locals keys sum.items)
    (Some (record { left = sum_filled locals keys left.items; cmp = cmp; right = sum_filled locals keys right.items }))
stmt_filled locals keys (Remove i) = stmts.Remove (name_at keys i)
stmt_filled locals keys (Show sum) = stmts.Show (sum_filled locals keys sum.items)
stmt_filled locals keys Fail = stmts.Fail

-- the statements of a shape over these keys
abbrev pub steps_filled : Shape → List (List ℕ) → List Stmt
steps_filled s keys = map (stmt_filled s.locals.items keys) s.steps.items

-- the shape's transaction: it binds the values, and then does what the steps say. It may read and write each of the keys
abbrev pub txn_filled : Shape → List (List ℕ) → List ℤ → Txn
txn_filled s keys vs = record { edition = s.edition; reads = keys; writes = keys; body = lets s.locals.items vs ++ steps_filled s keys }
