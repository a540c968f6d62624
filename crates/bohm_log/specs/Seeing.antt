-- What a view of a transaction shows.
use Rattle.std.specs.Prelude.{◌≤◌, ℕ, Bool, length, Option, Some, None}
use Rattle.std.specs.List.{IsDistinct}
use Rattle.std.specs.Str.{bytes_eq}
use Rattle.bohm_types.specs.Term.{Atom}
use Rattle.bohm_types.specs.Term as atoms
use Rattle.bohm_types.specs.Stmt.{Cond, Stmt}
use Rattle.bohm_types.specs.Stmt as stmts
use Rattle.bohm_types.specs.Txn.{Txn}
use Rattle.bohm_log.specs.declared.slices.TxnSlices.{TxnSlices}
use Rattle.bohm_log.specs.declared.sum.TermParts.{TermParts}
use Rattle.bohm_log.specs.declared.sum.AtomParts.{AtomParts}
use Rattle.bohm_log.specs.declared.sum.AtomParts.TheVariants.{Lit, Read, Local}
use Rattle.bohm_log.specs.declared.stmt.CondView.{CondView}
use Rattle.bohm_log.specs.declared.stmt.StmtParts.{StmtParts}
use Rattle.bohm_log.specs.declared.stmt.StmtParts.TheVariants.{Bind, Need, Has, Lacks, Put, Remove, Show, Fail}
use Rattle.bohm_log.specs.Parts.{Parts, IsWithin, RowIn, names_at, txn_of}
use Rattle.bohm_log.specs.declared.row.StmtRow.{StmtRow}
use Rattle.bohm_log.specs.Columns.{AllNamed}
use Rattle.bohm_log.specs.Layers.{all_names}

-- the slices as lists
abbrev pub parts_seen : TxnSlices → Parts
parts_seen s = record {
  reads = names_at (all_names s.names) s.reads.now;
  writes = names_at (all_names s.names) s.writes.now;
  others = s.others.now;
  large = s.large.now;
  terms = s.terms.now;
  rows = s.rows.now;
}

abbrev pub txn_seen : TxnSlices → Txn
txn_seen s = txn_of s.edition (parts_seen s)

pub record IsSeen (s : TxnSlices) : Type 0 where
  pub reads : AllNamed (all_names s.names) s.reads.now
  pub writes : AllNamed (all_names s.names) s.writes.now
  pub within : IsWithin (parts_seen s)
  -- names are distinct
  pub apart : IsDistinct bytes_eq s.others.now

-- the statement's indices are within the parts
pub record IsSeenRow (s : TxnSlices) (r : StmtRow) : Type 0 where
  pub seen : IsSeen s
  pub row : RowIn (parts_seen s) r

-- the sum's terms are within the parts
pub record IsSeenSum (s : TxnSlices) (start end : ℕ) : Type 0 where
  pub seen : IsSeen s
  pub rises : start ≤ end
  pub within : end ≤ length s.terms.now

-- ---- parts of a sum and of a statement

abbrev pub atom_shown : AtomParts → Atom
atom_shown (Lit n) = atoms.Lit n
atom_shown (Read k) = atoms.Read k
atom_shown (Local x) = atoms.Local x

abbrev pub term_shown : TermParts → Bool × Atom
term_shown t = (t.minus, atom_shown t.atom)

abbrev pub cond_shown : CondView → Cond
cond_shown c = record { left = c.left; cmp = c.cmp; right = c.right }

abbrev pub guard_shown : Option CondView → Option Cond
guard_shown None = None
guard_shown (Some c) = Some (cond_shown c)

-- the statement that these parts make up
abbrev pub stmt_shown : StmtParts → Stmt
stmt_shown (Bind x sum) = stmts.Bind x sum
stmt_shown (Need c) = stmts.Need (cond_shown c)
stmt_shown (Has k) = stmts.Has k
stmt_shown (Lacks k) = stmts.Lacks k
stmt_shown (Put k sum guard) = stmts.Put k sum (guard_shown guard)
stmt_shown (Remove k) = stmts.Remove k
stmt_shown (Show sum) = stmts.Show sum
stmt_shown Fail = stmts.Fail
