-- The statements of a body.
use Rattle.std.specs.Prelude.{ℕ, List, Bool, Option}
use Rattle.bohm_types.specs.declared.cmp.Cmp.{Cmp}
use Rattle.bohm_types.specs.Term.{Atom}

-- a comparison of two sums
pub record Cond : Type 0 where
  pub left : List (Bool × Atom)
  pub cmp : Cmp
  pub right : List (Bool × Atom)

-- let $name = SUM, need SUM CMP SUM, need has KEY, need no KEY, set KEY = SUM with or without a guard, drop KEY, show SUM, fail
pub data Stmt : Type 0 where
  Bind : (name : List ℕ) (sum : List (Bool × Atom)) → Stmt
  Need : Cond → Stmt
  Has : (key : List ℕ) → Stmt
  Lacks : (key : List ℕ) → Stmt
  Put : (key : List ℕ) (sum : List (Bool × Atom)) (guard : Option Cond) → Stmt
  Remove : (key : List ℕ) → Stmt
  Show : (sum : List (Bool × Atom)) → Stmt
  Fail : Stmt
