-- What the text of a batch means: its lines make entries, and each entry is read after the definitions before it.
use Rattle.std.specs.Prelude.{ℕ, ℤ, ◌+◌, Bool, true, false, ◌||◌, List, [], ◌∷◌, ◌++◌, Option, Some, None, length, take, drop, codes, if◌then◌else◌}
use Rattle.std.specs.Str.{bytes_eq}
use Rattle.bohm_types.specs.declared.edition.Edition.{Edition}
use Rattle.bohm_types.specs.Name.{key_of}
use Rattle.bohm_types.specs.Procedure.{Procedure}
use Rattle.bohm_types.specs.Txn.{Txn}
use Rattle.bohm_text.specs.Cut.{split, whole_lines}
use Rattle.bohm_text.specs.Print.{Words}
use Rattle.bohm_text.specs.ProcedureText.{Stage, stages}
use Rattle.bohm_text.specs.ProcedureText as procedures
use Rattle.bohm_text.specs.Reading.{◌>>=◌, keys_of, number_of}
use Rattle.bohm_text.specs.Step.{Progress, steps}
use Rattle.bohm_text.specs.Step as documents
use Rattle.bohm_text.specs.Windows.{head_line, headed}
use Rattle.bohm_entries.specs.declared.first_line.Kind.{Kind}
use Rattle.bohm_entries.specs.declared.first_line.Kind.TheVariants as kinds
use Rattle.bohm_entries.specs.FirstLines.{has_mark}
use Rattle.bohm_entries.specs.Meaning.{Entry, Define, Call, Transaction, Definitions, defined, definitions_after, txns_of}

-- ---- entries, by lines

-- the first word of a line is this one
abbrev pub leads : List ℕ → Words → Bool
leads word [] = false
leads word (w ∷ ws) = bytes_eq w word

-- a line that ends an entry: `end`, or a call's
abbrev pub ends : List ℕ → Bool
ends line = bytes_eq line (codes "end") || leads (codes "call") (split 32 line)

abbrev pub onto_entry : List ℕ → List (List (List ℕ)) → List (List (List ℕ))
onto_entry line [] = []
onto_entry line (e ∷ es) = (line ∷ e) ∷ es

-- the lines, entry by entry; those behind the last end are no entry's
abbrev pub entries_in : List (List ℕ) → List (List (List ℕ))
entries_in [] = []
entries_in (line ∷ lines) = if ends line then (line ∷ []) ∷ entries_in lines else onto_entry line (entries_in lines)

-- the entries of a batch's text
abbrev pub entries_of : List ℕ → List (List (List ℕ))
entries_of text = entries_in (whole_lines text)

abbrev pub is_definition : List (List ℕ) → Bool
is_definition [] = false
is_definition (line ∷ lines) = leads (codes "define") (split 32 line)

-- how many transactions an entry has
abbrev pub weight : List (List ℕ) → ℕ
weight lines = if is_definition lines then 0 else 1

-- how many transactions these entries have
abbrev pub count : List (List (List ℕ)) → ℕ
count [] = 0
count (e ∷ es) = weight e + count es

-- no entry is a definition
abbrev pub are_plain : List (List (List ℕ)) → Bool
are_plain [] = true
are_plain (e ∷ es) = if is_definition e then false else are_plain es

-- ---- one entry

-- the id that a word spells behind its mark
abbrev pub id_marked : List ℕ → Option (List ℕ)
id_marked [] = None
id_marked (b ∷ bs) = if has_mark (b ∷ bs) then Some bs else None

-- the id of the words behind the kind, and the words behind it
abbrev pub id_ahead : Words → Option (List ℕ)
id_ahead [] = None
id_ahead (w ∷ ws) = id_marked w

abbrev pub behind_id : Words → Words
behind_id [] = []
behind_id (w ∷ ws) = if has_mark w then ws else w ∷ ws

abbrev pub behind_kind : Words → Words
behind_kind [] = []
behind_kind (w ∷ ws) = ws

-- the id that an entry carries
abbrev pub id_in : List (List ℕ) → Option (List ℕ)
id_in [] = None
id_in (line ∷ lines) = id_ahead (behind_kind (split 32 line))

-- the procedure of these lines
abbrev pub procedure_at : Option Stage → Option Procedure
procedure_at (Some (procedures.Done p)) = Some p
procedure_at _ = None

abbrev pub procedure_in : List (List ℕ) → Option Procedure
procedure_in lines = procedure_at (stages procedures.Nothing lines)

-- the only transaction of a log
abbrev pub only_txn : List Txn → Option Txn
only_txn (t ∷ []) = Some t
only_txn _ = None

abbrev pub txn_at : Option Progress → Option Txn
txn_at (Some (documents.Between d)) = only_txn d.log
txn_at _ = None

-- the transaction of these lines behind `txn`
abbrev pub txn_in : Edition → List (List ℕ) → Option Txn
txn_in edition lines = txn_at (steps documents.Nothing (head_line edition ∷ codes "txn" ∷ lines))

-- the log of which these are the lines behind the first `txn`
abbrev pub behind_opening : Edition → List ℕ → List ℕ
behind_opening edition lines = headed edition (codes "txn" ++ 10 ∷ lines)

-- the values that words spell
abbrev pub values_of : Words → Option (List ℤ)
values_of [] = Some []
values_of (w ∷ ws) = do
  value ← number_of w
  values ← values_of ws
  Some (value ∷ values)

-- a call of a procedure with these arguments, keys before values
abbrev pub call_of : List ℕ → Procedure → Words → Option Entry
call_of name procedure words = do
  keys ← keys_of (take (length procedure.keys) words)
  values ← values_of (drop (length procedure.keys) words)
  Some (Call name keys values)

-- the edition, and the definitions so far
pub record Defined : Type 0 where
  pub edition : Edition
  pub procedures : Definitions

abbrev pub named : Words → Option (List ℕ)
named (name ∷ []) = key_of name
named _ = None

abbrev pub define_of : Words → List (List ℕ) → Option Entry
define_of words lines = do
  name ← named words
  procedure ← procedure_in lines
  Some (Define name procedure)

abbrev pub called_of : Definitions → Words → Option Entry
called_of ds [] = None
called_of ds (name ∷ words) = defined ds name >>= λ procedure. call_of name procedure words

abbrev pub transaction_of : Edition → List (List ℕ) → Option Entry
transaction_of edition lines = txn_in edition lines >>= λ t. Some (Transaction t)

-- an entry by its kind, the words behind the kind and the id, and the lines behind the first one
abbrev pub entry_by_kind : Defined → Kind → Words → List (List ℕ) → Option Entry
entry_by_kind d kinds.Define words lines = define_of words lines
entry_by_kind d kinds.Call words lines = called_of d.procedures words
entry_by_kind d kinds.Transaction words lines = transaction_of d.edition lines

abbrev pub weight_of : Kind → ℕ
weight_of kinds.Define = 0
weight_of kinds.Call = 1
weight_of kinds.Transaction = 1

-- the entry whose first line has these words, with the lines behind it
abbrev pub entry_by : Defined → Words → List (List ℕ) → Option Entry
entry_by d words lines =
    if leads (codes "define") words then define_of (behind_id (behind_kind words)) lines else (
    if leads (codes "call") words then called_of d.procedures (behind_id (behind_kind words)) else (
    if leads (codes "txn") words then transaction_of d.edition lines else None))

-- the entry that these lines spell after the definitions so far
abbrev pub entry_in : Defined → List (List ℕ) → Option Entry
entry_in d [] = None
entry_in d (line ∷ lines) = entry_by d (split 32 line) lines

abbrev pub definitions_with : Definitions → Option Entry → Definitions
definitions_with ds None = ds
definitions_with ds (Some e) = definitions_after ds e

abbrev pub txns_with : Definitions → Option Entry → List Txn
txns_with ds None = []
txns_with ds (Some e) = txns_of ds e

-- the definitions after an entry
abbrev pub defined_after : Defined → List (List ℕ) → Defined
defined_after d lines = record { edition = d.edition; procedures = definitions_with d.procedures (entry_in d lines) }

-- the transaction of an entry, if it has one
abbrev pub txns_in : Defined → List (List ℕ) → List Txn
txns_in d lines = txns_with d.procedures (entry_in d lines)

-- the definitions after these entries
abbrev pub defined_by : Defined → List (List (List ℕ)) → Defined
defined_by d [] = d
defined_by d (e ∷ es) = defined_by (defined_after d e) es

-- the log of instances of these entries
abbrev pub log_of : Defined → List (List (List ℕ)) → List Txn
log_of d [] = []
log_of d (e ∷ es) = txns_in d e ++ log_of (defined_after d e) es
