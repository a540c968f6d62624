-- The parts of the transaction being read.
use Rattle.std.specs.Prelude.{◌≡◌, ℕ, ◌≤◌, ◌<◌, ◌^◌, List, [], ◌∷◌, ◌++◌, length, Bool, Option, Some, None}
use Rattle.std.specs.List.{slice_index_or}
use Rattle.bohm_types.specs.declared.cmp.Cmp.{Cmp}
use Rattle.bohm_types.specs.Stmt.{Stmt, Put, Need}
use Rattle.bohm_types.specs.declared.edition.Edition.{Edition}
use Rattle.bohm_types.specs.Txn.{Txn}
use Rattle.bohm_log.specs.declared.row.Action.{Action}
use Rattle.bohm_log.specs.declared.row.Action.TheVariants as actions
use Rattle.bohm_log.specs.declared.row.StmtRow.{StmtRow}
use Rattle.bohm_log.specs.declared.row.Step.{Step}
use Rattle.bohm_log.specs.declared.row.Step.TheVariants.{Whole, Left, Right}
use Rattle.bohm_log.specs.declared.row.Pending.{Pending}
use Rattle.bohm_types.specs.Term.{Atom}
use Rattle.bohm_log.specs.declared.row.TermRow.{TermRow}
use Rattle.bohm_log.specs.declared.draft_columns.DraftColumns.{DraftColumns}
use Rattle.bohm_log.specs.Parts.{Parts, TermIn, KeyIn, NameIn, Grows, IsWithin, key_at, named_by, term_of, sum_between, stmt_made, txn_of}

abbrev pub parts_of : {S H : Type 0} → DraftColumns S H → Parts
parts_of s = record {
  reads = s.reads.items;
  writes = s.writes.items;
  others = s.others;
  large = s.large.items;
  terms = s.terms.items;
  rows = s.rows.items;
}

abbrev pub no_parts : Parts
no_parts = record { reads = []; writes = []; others = []; large = []; terms = []; rows = [] }

-- names and literals may be added, and the rest is unchanged
pub record NamesGrow (p q : Parts) : Type 0 where
  pub grows : Grows p q
  pub terms : q.terms ≡ p.terms
  pub rows : q.rows ≡ p.rows

-- the term encodes this atom
pub record Stands (p : Parts) (t : TermRow) (minus : Bool) (atom : Atom) : Type 0 where
  pub within : TermIn p t
  pub same : term_of p t ≡ (minus, atom)

-- one term was added
pub record AddsTerm (p q : Parts) (minus : Bool) (atom : Atom) : Type 0 where
  pub grows : Grows p q
  pub rows : q.rows ≡ p.rows
  pub term : TermRow
  pub terms : q.terms ≡ p.terms ++ term ∷ []
  pub stands : Stands q term minus atom

abbrev pub with_one_read : Parts → List ℕ → Parts
with_one_read p k = record { reads = p.reads ++ k ∷ []; writes = p.writes; others = p.others; large = p.large; terms = p.terms; rows = p.rows }

abbrev pub with_one_write : Parts → List ℕ → Parts
with_one_write p k = record { reads = p.reads; writes = p.writes ++ k ∷ []; others = p.others; large = p.large; terms = p.terms; rows = p.rows }

-- the key has this index among declared keys, or else among the other names
pub record KeyStands (keys others : List (List ℕ)) (declared : Bool) (i : ℕ) (name : List ℕ) : Type 0 where
  pub within : KeyIn keys others declared i
  pub same : key_at keys others declared i ≡ name

-- the statement has a name
abbrev pub IsNamed : Action → Type 0
IsNamed actions.Bind = Unit {0}
IsNamed (actions.Need c) = ⊥
IsNamed actions.Has = Unit {0}
IsNamed actions.Lacks = Unit {0}
IsNamed actions.Put = Unit {0}
IsNamed (actions.PutWhen c) = Unit {0}
IsNamed actions.Remove = Unit {0}
IsNamed actions.Show = ⊥
IsNamed actions.Fail = ⊥

-- the declared keys in which the statement's name is looked up
abbrev pub keys_of : Action → List (List ℕ) → List (List ℕ) → List (List ℕ)
keys_of actions.Bind reads writes = []
keys_of (actions.Need c) reads writes = []
keys_of actions.Has reads writes = reads
keys_of actions.Lacks reads writes = reads
keys_of actions.Put reads writes = writes
keys_of (actions.PutWhen c) reads writes = writes
keys_of actions.Remove reads writes = writes
keys_of actions.Show reads writes = []
keys_of actions.Fail reads writes = []

-- the statement has no name
abbrev pub IsNameless : Action → Type 0
IsNameless actions.Bind = ⊥
IsNameless (actions.Need c) = Unit {0}
IsNameless actions.Has = ⊥
IsNameless actions.Lacks = ⊥
IsNameless actions.Put = ⊥
IsNameless (actions.PutWhen c) = ⊥
IsNameless actions.Remove = ⊥
IsNameless actions.Show = Unit {0}
IsNameless actions.Fail = Unit {0}

-- the statement writes a key
abbrev pub IsWriting : Action → Type 0
IsWriting actions.Bind = ⊥
IsWriting (actions.Need c) = ⊥
IsWriting actions.Has = ⊥
IsWriting actions.Lacks = ⊥
IsWriting actions.Put = Unit {0}
IsWriting (actions.PutWhen c) = Unit {0}
IsWriting actions.Remove = Unit {0}
IsWriting actions.Show = ⊥
IsWriting actions.Fail = ⊥

-- the index is this name's
pub record NameStands (p : Parts) (action : Action) (declared : Bool) (i : ℕ) (name : List ℕ) : Type 0 where
  pub within : NameIn p action declared i
  pub same : named_by p action declared i ≡ name

abbrev pub with_row : Parts → StmtRow → Parts
with_row q r = record { reads = q.reads; writes = q.writes; others = q.others; large = q.large; terms = q.terms; rows = q.rows ++ r ∷ [] }

-- one statement was added
pub record AddsRow (p q : Parts) (action : Action) (name : List ℕ) (start first second third : ℕ) : Type 0 where
  pub mid : Parts
  pub grows : NamesGrow p mid
  pub declared : Bool
  pub place : ℕ
  pub names : NameStands mid action declared place name
  pub made : q ≡ with_row mid (record { action = action; declared = declared; name = place; start = start; first = first; second = second; third = third })

-- ---- the contract view of a draft

-- a transaction so far, the finished sums of its open statement, and the sum being read
pub record Drafted : Type 0 where
  pub txn : Txn
  pub done : List (List (Bool × Atom))
  pub latest : List (Bool × Atom)

-- nothing of the body has been read
pub record IsBare (d : Drafted) : Type 0 where
  pub body : d.txn.body ≡ []
  pub done : d.done ≡ []
  pub latest : d.latest ≡ []

-- no sum is open
pub record IsBetween (d : Drafted) : Type 0 where
  pub done : d.done ≡ []
  pub latest : d.latest ≡ []

-- nothing but an edition
abbrev pub fresh : Edition → Drafted
fresh e = record { txn = record { edition = e; reads = []; writes = []; body = [] }; done = []; latest = [] }

-- one more declared read
abbrev pub with_read : Drafted → List ℕ → Drafted
with_read d k = record d { txn = record d.txn { reads = d.txn.reads ++ k ∷ [] } }

-- one more declared write
abbrev pub with_write : Drafted → List ℕ → Drafted
with_write d k = record d { txn = record d.txn { writes = d.txn.writes ++ k ∷ [] } }

-- one more term of the sum being read
abbrev pub with_term : Drafted → Bool → Atom → Drafted
with_term d minus atom = record d { latest = d.latest ++ (minus, atom) ∷ [] }

-- the sum being read is finished, and another one begins
abbrev pub with_sum : Drafted → Drafted
with_sum d = record d { done = d.done ++ d.latest ∷ []; latest = [] }

-- one more statement, and none is open
abbrev pub with_stmt : Drafted → Stmt → Drafted
with_stmt d s = record { txn = record d.txn { body = d.txn.body ++ s ∷ [] }; done = []; latest = [] }

-- the open statement's sum with this number, or the sum being read
abbrev pub sum_of : Drafted → ℕ → List (Bool × Atom)
sum_of d i = slice_index_or (d.done ++ d.latest ∷ []) i []

-- the statement with the draft's sums
abbrev pub made_of : Drafted → Action → List ℕ → Stmt
made_of d action name = stmt_made action name (sum_of d 0) (sum_of d 1) (sum_of d 2)

-- set KEY = first when second CMP latest
abbrev pub put_of : Drafted → List ℕ → Option Cmp → Stmt
put_of d k None = Put k d.latest None
put_of d k (Some c) = Put k (slice_index_or d.done 0 []) (Some (record { left = slice_index_or d.done 1 []; cmp = c; right = d.latest }))

-- need first CMP latest
abbrev pub need_of : Drafted → Cmp → Stmt
need_of d c = Need (record { left = slice_index_or d.done 0 []; cmp = c; right = d.latest })

-- ---- a draft in memory

-- the finished sums: those before the one being read
abbrev pub done_at : Parts → ℕ → ℕ → ℕ → Step → List (List (Bool × Atom))
done_at p start first second Whole = []
done_at p start first second Left = sum_between p start first ∷ []
done_at p start first second Right = sum_between p start first ∷ sum_between p first second ∷ []

abbrev pub done_in : Parts → Pending → List (List (Bool × Atom))
done_in p o = done_at p o.start o.first o.second o.step

-- where the sum being read begins
abbrev pub from_at : ℕ → ℕ → ℕ → Step → ℕ
from_at start first second Whole = start
from_at start first second Left = first
from_at start first second Right = second

abbrev pub latest_from : Pending → ℕ
latest_from o = from_at o.start o.first o.second o.step

-- where the first sum and the second end, if the last term ends at `end`
abbrev pub first_end : ℕ → ℕ → Step → ℕ
first_end first end Whole = end
first_end first end Left = first
first_end first end Right = first

abbrev pub second_end : ℕ → ℕ → Step → ℕ
second_end second end Whole = end
second_end second end Left = end
second_end second end Right = second

-- the open statement when the sum being read ends at `end`, where the next one begins
abbrev pub next_sum : ℕ → ℕ → ℕ → ℕ → Step → Pending
next_sum end start first second Whole = record { start = start; first = end; second = end; step = Left }
next_sum end start first second Left = record { start = start; first = first; second = end; step = Right }
next_sum end start first second Right = record { start = start; first = first; second = second; step = Right }

abbrev pub drafted_of : Edition → Parts → Pending → Drafted
drafted_of e p o = record { txn = txn_of e p; done = done_in p o; latest = sum_between p (latest_from o) (length p.terms) }

-- a statement that begins where the terms end
abbrev pub opened : ℕ → Pending
opened t = record { start = t; first = t; second = t; step = Whole }

-- indices are within the lists, and offsets ascend
pub record IsDrafted (p : Parts) (o : Pending) : Type 0 where
  pub within : IsWithin p
  pub begins : o.start ≤ o.first
  pub rises : o.first ≤ o.second
  pub ends : o.second ≤ length p.terms
  pub few : length p.terms < 2 ^ 32
  -- there are no terms before the first statement
  pub bare : length p.rows ≡ 0 → o.start ≡ 0
