-- Procedures, and what their calls mean.
use Rattle.std.specs.Prelude.{ℕ, ℤ, pos, negsuc, ◌-◌, ◌^◌, List, [], ◌∷◌, ◌++◌, map, drop, length, Bool, true, false, Option, Some, None, nat_lt, if◌then◌else◌}
use Rattle.std.specs.List.{slice_index_or}
use Rattle.std.specs.Int.RustNames.{unsigned_abs}
use Rattle.bohm_types.specs.declared.edition.Edition.{Edition}
use Rattle.bohm_types.specs.Keys.{place}
use Rattle.bohm_types.specs.Term.{Atom, Lit}
use Rattle.bohm_types.specs.Stmt.{Stmt, Bind}
use Rattle.bohm_types.specs.Txn.{Txn}
use Rattle.bohm_types.specs.KeySets.{key_set}
use Rattle.bohm_types.specs.Substitution.{stmt_with}

-- a transaction with parameters, of which some name keys and some values
pub record Procedure : Type 0 where
  pub edition : Edition
  pub keys : List (List ℕ)
  pub values : List (List ℕ)
  pub reads : List (List ℕ)
  pub writes : List (List ℕ)
  pub body : List Stmt

abbrev pub argument_or : List ℕ → List (List ℕ) → Option ℕ → List ℕ
argument_or name ks None = name
argument_or name ks (Some i) = slice_index_or ks i name

-- the key that a name represents: the argument if the name is a parameter, or else the name itself
abbrev pub stands_for : List (List ℕ) → List (List ℕ) → List ℕ → List ℕ
stands_for ps ks name = argument_or name ks (place ps name)

abbrev pub is_minus : ℤ → Bool
is_minus (pos n) = false
is_minus (negsuc n) = true

-- a literal with its sign. The magnitude of the least value isn't a literal, so that value takes two
abbrev pub sum_by : Bool → ℕ → List (Bool × Atom)
sum_by minus size = if nat_lt size (2 ^ 63) then (minus, Lit size) ∷ [] else (minus, Lit (2 ^ 63 - 1)) ∷ (minus, Lit 1) ∷ []

-- a value as a sum
abbrev pub sum_of : ℤ → List (Bool × Atom)
sum_of v = sum_by (is_minus v) (unsigned_abs v)

-- `let $x = V` for each
abbrev pub lets : List (List ℕ) → List ℤ → List Stmt
lets [] vs = []
lets (x ∷ xs) [] = []
lets (x ∷ xs) (v ∷ vs) = Bind x (sum_of v) ∷ lets xs vs

-- the transaction that a call represents
abbrev pub instance : Procedure → List (List ℕ) → List ℤ → Txn
instance p ks vs = record {
  edition = p.edition;
  reads = key_set (map (stands_for p.keys ks) p.reads);
  writes = key_set (map (stands_for p.keys ks) p.writes);
  body = lets p.values vs ++ map (stmt_with (stands_for p.keys ks)) p.body;
}

-- the procedure whose own instance is this transaction
abbrev pub procedure_with : Txn → List (List ℕ) → List (List ℕ) → Procedure
procedure_with t keys values = record
    { edition = t.edition; keys = keys; values = values; reads = t.reads; writes = t.writes; body = drop (length values) t.body }
