-- The statements of a transaction, by their rows.
use Rattle.std.proofs.Common.{◌≡◌, ℕ, zero, suc, ◌<◌, List, [], ◌∷◌, length, map, get_or, Some, refl, ap, sym, ◌∙◌, subst, arith}
use Rattle.std.specs.Prelude.{Option, IsSomeAnd}
use Rattle.std.specs.List.{slice_get}
use Rattle.std.proofs.lemmas.List.{length-map}
use Rattle.bohm_types.specs.declared.edition.Edition.{Edition}
use Rattle.bohm_types.specs.Stmt.{Stmt}
use Rattle.bohm_types.specs.Txn.{Txn}
use Rattle.bohm_log.specs.declared.row.StmtRow.{StmtRow}
use Rattle.bohm_log.specs.Parts.{Parts, stmt_of, txn_of}

pub mapped : {A B : Type 0} (f : A → B) (xs : List A) (i : ℕ) (d : A) → i < length xs → slice_get (map f xs) i ≡ Some (f (get_or xs i d))
mapped f [] i d inside = absurd (omega (arith, inside))
mapped f (x ∷ xs) zero d inside = refl
mapped f (x ∷ xs) (suc i) d inside = mapped f xs i d (omega (arith, inside))

module _ (t : Txn) (e : Edition) (p : Parts) (same : txn_of e p ≡ t) (rows : List StmtRow) (held : rows ≡ p.rows) (i : ℕ) where
  body_mapped : t.body ≡ map (stmt_of p) rows
  body_mapped = ap (λ (t : Txn). t.body) (sym same) ∙ ap (map (stmt_of p)) (sym held)

  -- the statement at an index is that of the row there
  pub row_there : (d : StmtRow) → i < length rows → slice_get t.body i ≡ Some (stmt_of p (get_or rows i d))
  row_there d inside = rw body_mapped (mapped (stmt_of p) rows i d inside)

  pub rows_within : i < length t.body → i < length rows
  rows_within inside = subst (λ (n : ℕ). i < n) (ap length body_mapped ∙ length-map rows (stmt_of p)) inside

  -- a property of the row's statement is one of the statement at its index
  pub row_at : i < length t.body → (P : Stmt → Type 0) (d : StmtRow) → P (stmt_of p (get_or rows i d)) → IsSomeAnd (slice_get t.body i) P
  row_at inside P d h = subst (λ (o : Option Stmt). IsSomeAnd o P) (sym (row_there d (rows_within inside))) h
