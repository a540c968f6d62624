-- A transaction with a function applied to each of its keys. Locals are unchanged.
use Rattle.std.specs.Prelude.{ℕ, List, map, Bool, Option, Some, None}
use Rattle.bohm_types.specs.Term.{Atom, Lit, Read, Local}
use Rattle.bohm_types.specs.Stmt.{Cond, Stmt, Bind, Need, Has, Lacks, Put, Remove, Show, Fail}

abbrev pub atom_with : (List ℕ → List ℕ) → Atom → Atom
atom_with f (Lit n) = Lit n
atom_with f (Read k) = Read (f k)
atom_with f (Local x) = Local x

abbrev pub term_with : (List ℕ → List ℕ) → Bool × Atom → Bool × Atom
term_with f t = (t.0, atom_with f t.1)

abbrev pub sum_with : (List ℕ → List ℕ) → List (Bool × Atom) → List (Bool × Atom)
sum_with f sum = map (term_with f) sum

abbrev pub cond_with : (List ℕ → List ℕ) → Cond → Cond
cond_with f c = record { left = sum_with f c.left; cmp = c.cmp; right = sum_with f c.right }

abbrev pub guard_with : (List ℕ → List ℕ) → Option Cond → Option Cond
guard_with f None = None
guard_with f (Some c) = Some (cond_with f c)

abbrev pub stmt_with : (List ℕ → List ℕ) → Stmt → Stmt
stmt_with f (Bind x sum) = Bind x (sum_with f sum)
stmt_with f (Need c) = Need (cond_with f c)
stmt_with f (Has k) = Has (f k)
stmt_with f (Lacks k) = Lacks (f k)
stmt_with f (Put k sum guard) = Put (f k) (sum_with f sum) (guard_with f guard)
stmt_with f (Remove k) = Remove (f k)
stmt_with f (Show sum) = Show (sum_with f sum)
stmt_with f Fail = Fail
