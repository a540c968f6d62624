-- What is read of a transaction straight from its text: what was added to the draft, and which bytes are its print.
use Rattle.std.specs.Prelude.{◌≡◌, ℕ, List, [], ◌∷◌, ◌++◌, map, Bool, Option, codes, if◌then◌else◌}
use Rattle.bohm_types.specs.Term.{Atom}
use Rattle.bohm_types.specs.Stmt.{Cond, Stmt, Put}
use Rattle.bohm_types.specs.declared.cmp.Cmp.{Cmp}
use Rattle.bohm_types.specs.declared.edition.Edition.{Edition}
use Rattle.bohm_log.specs.Drafting.{Drafted, with_stmt}
use Rattle.bohm_text.specs.Print.{Words, atom_word, cond_words, first_word, guard_words, lines_text, line_text, spaced, stmt_words, sum_words}
use Rattle.bohm_text.specs.Taking.{with_cond, with_one, with_terms}

-- a transaction that declares these keys, before its body
abbrev pub declared : Edition → Words → Words → Drafted
declared e reads writes = record { txn = record { edition = e; reads = reads; writes = writes; body = [] }; done = []; latest = [] }

-- the text begins with these keys, each after a space
abbrev pub KeysRead : List ℕ → List ℕ → Words → Type 0
KeysRead text rest keys = text ≡ spaced keys ++ rest

-- the sign of a further term, as a word
abbrev pub further_sign : Bool → List ℕ
further_sign minus = if minus then codes " - " else codes " + "

-- the sign of a sum's first term, as the beginning of its word
abbrev pub word_sign : Bool → List ℕ
word_sign minus = if minus then codes "-" else []

-- the text begins with a sum's first term, which was added
pub record FirstRead (text rest : List ℕ) (before now : Drafted) : Type 0 where
  pub term : Bool × Atom
  pub added : now ≡ with_one before term
  pub bytes : text ≡ first_word term ++ rest

-- the text begins with a further term after its sign, which was added
pub record TermRead (minus : Bool) (text rest : List ℕ) (before now : Drafted) : Type 0 where
  pub term : Bool × Atom
  pub sign : term.0 ≡ minus
  pub added : now ≡ with_one before term
  pub bytes : text ≡ atom_word term.1 ++ rest

-- the text begins with a sum, which was added
pub record SumRead (text rest : List ℕ) (before now : Drafted) : Type 0 where
  pub first : Bool × Atom
  pub others : List (Bool × Atom)
  pub added : now ≡ with_terms before (first ∷ others)
  pub bytes : text ≡ spaced (sum_words (first ∷ others)) ++ rest

-- the text begins with a condition, whose sums were added
pub record CondRead (cmp : Cmp) (text rest : List ℕ) (before now : Drafted) : Type 0 where
  pub cond : Cond
  pub compared : cond.cmp ≡ cmp
  pub added : now ≡ with_cond before cond
  pub bytes : text ≡ spaced (cond_words cond) ++ rest

-- the text begins with what follows the equals sign of a statement that sets this key, up to its newline
pub record AssignedRead (key text rest : List ℕ) (before now : Drafted) : Type 0 where
  pub sum : List (Bool × Atom)
  pub guard : Option Cond
  pub added : now ≡ with_stmt before (Put key sum guard)
  pub bytes : text ≡ spaced (sum_words sum ++ guard_words guard) ++ 10 ∷ rest

-- the text begins with a statement's line
pub record StmtRead (text rest : List ℕ) (before now : Drafted) : Type 0 where
  pub stmt : Stmt
  pub added : now ≡ with_stmt before stmt
  pub bytes : text ≡ line_text (stmt_words stmt) ++ 10 ∷ rest

-- a draft between statements with more of them
abbrev pub with_stmts : Drafted → List Stmt → Drafted
with_stmts d stmts = record { txn = record d.txn { body = d.txn.body ++ stmts }; done = []; latest = [] }

-- the text begins with the lines of statements
pub record StmtsRead (text rest : List ℕ) (before now : Drafted) : Type 0 where
  pub stmts : List Stmt
  pub added : now ≡ with_stmts before stmts
  pub bytes : text ≡ lines_text (map stmt_words stmts) ++ rest

-- the text begins with the lines of statements and of the transaction's end
pub record BodyRead (text rest : List ℕ) (before now : Drafted) : Type 0 where
  pub stmts : List Stmt
  pub added : now ≡ with_stmts before stmts
  pub bytes : text ≡ lines_text (map stmt_words stmts ++ (codes "end" ∷ []) ∷ []) ++ rest
