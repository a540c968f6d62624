-- How a loosely written text is read, and its exact text.
use Rattle.std.specs.Prelude.{◌≡◌, ◌≢◌, ◌⊎◌, ◌<◌, ◌≤◌, ℕ, List, [], Bool, true, Option, Some, None, length}
use Rattle.std.specs.List.{AllByRecursion, IsDistinct}
use Rattle.std.specs.Str.{bytes_eq}
use Rattle.bohm_types.specs.Document.{Document}
use Rattle.bohm_types.specs.Keys.{names_of, rising}
use Rattle.bohm_types.specs.Procedure.{Procedure}
use Rattle.bohm_types.specs.Sound.{IsDocument}
use Rattle.bohm_types.specs.Txn.{Txn}
use Rattle.bohm_text.specs.Print.{print_doc}
use Rattle.bohm_text.specs.ProcedureText.{IsProcedure, print_procedure}
use Rattle.bohm_text.specs.Cut.{split}
use Rattle.bohm_tidy.specs.Plain.{written}
use Rattle.bohm_tidy.specs.Settled.{settled}
use Rattle.bohm_tidy.specs.declared.fault.TidyFault.{TidyFault}
use Rattle.bohm_tidy.specs.declared.fault.TidyFault.TheVariants.{Line, Short, Twice, NoMemory}

-- a document with its keys in any order, and for each of its transactions whether its reads, and its writes, are missing
pub record Loose : Type 0 where
  pub document : Document
  pub no_reads : List Bool
  pub no_writes : List Bool

-- a document with this text, or there is none
abbrev pub IsExactDoc : List ℕ → Option Document → Type 0
IsExactDoc text (Some d) = IsDocument d × (print_doc d ≡ text)
IsExactDoc text None = (d : Document) → IsDocument d → print_doc d ≢ text

-- an exact text is read unchanged
pub record IsExact (text : List ℕ) (l : Loose) : Type 0 where
  pub prints : print_doc l.document ≡ text
  pub no_reads : l.no_reads ≡ []
  pub no_writes : l.no_writes ≡ []

-- any other text is read as the exact lines made from its lines
pub record IsByLines (text : List ℕ) (l : Loose) : Type 0 where
  pub prints : print_doc l.document ≡ (written text).text
  pub no_reads : l.no_reads ≡ (written text).no_reads
  pub no_writes : l.no_writes ≡ (written text).no_writes

-- what a text is read as
abbrev pub IsReadAs : List ℕ → Loose → Type 0
IsReadAs text l = IsExact text l ⊎ (IsExactDoc text None × IsByLines text l)

-- the loose reading of a text
pub record IsReading (text : List ℕ) (l : Loose) : Type 0 where
  pub sound : IsDocument l.document
  pub distinct : IsDistinct bytes_eq (names_of l.document.store)
  pub read : IsReadAs text l

abbrev pub settled_text : Loose → List ℕ
settled_text l = print_doc (settled l.no_reads l.no_writes l.document)

-- the exact text of what a loose text is read as
pub record IsTidied (text exact : List ℕ) : Type 0 where
  pub loose : Loose
  pub reading : IsReading text loose
  pub is : exact ≡ settled_text loose

-- the exact text of what a loose text is read as by its lines, whether or not it is exact already
pub record IsTidiedByLines (text exact : List ℕ) : Type 0 where
  pub loose : Loose
  pub sound : IsDocument loose.document
  pub distinct : IsDistinct bytes_eq (names_of loose.document.store)
  pub read : IsByLines text loose
  pub is : exact ≡ settled_text loose

-- a procedure's text
pub record IsProcedureText (text : List ℕ) : Type 0 where
  pub procedure : Procedure
  pub sound : IsProcedure procedure
  pub prints : print_procedure procedure ≡ text

-- ---- refusals

-- a line of the text, counted from 1
pub record IsLineOf (text : List ℕ) (n : ℕ) : Type 0 where
  pub counted : 0 < n
  pub within : n ≤ length (split 10 text)

-- no document has the exact lines that the text is read as
abbrev pub HasBadLines : List ℕ → Type 0
HasBadLines text = IsExactDoc (written text).text None

-- what a text is read as in this way is a document, but its store names a key twice
pub record HasDouble (Reads : List ℕ → Loose → Type 0) (text : List ℕ) : Type 0 where
  pub loose : Loose
  pub sound : IsDocument loose.document
  pub double : ¬ IsDistinct bytes_eq (names_of loose.document.store)
  pub read : Reads text loose

-- why this document's keys can't be put in order
abbrev pub IsUnsettled : Document → TidyFault → Type 0
IsUnsettled d (Line n) = ⊥
IsUnsettled d Short = ⊥
IsUnsettled d (Twice double) = ¬ IsDistinct bytes_eq (names_of d.store)
IsUnsettled d NoMemory = Unit {0}

-- why the exact lines that a text is read as have no exact text
abbrev pub RefusesLines : List ℕ → TidyFault → Type 0
RefusesLines text (Line n) = HasBadLines text × IsLineOf text n
RefusesLines text Short = HasBadLines text
RefusesLines text (Twice double) = HasDouble IsByLines text
RefusesLines text NoMemory = Unit {0}

-- a text that isn't read, as it stands or by its lines, is refused
abbrev pub RefusesLoose : List ℕ → TidyFault → Type 0
RefusesLoose text (Line n) = IsExactDoc text None × HasBadLines text × IsLineOf text n
RefusesLoose text Short = IsExactDoc text None × HasBadLines text
RefusesLoose text (Twice double) = HasDouble IsReadAs text
RefusesLoose text NoMemory = Unit {0}

-- ---- keys in order

pub record HasRisingSets (t : Txn) : Type 0 where
  pub reads : rising t.reads ≡ true
  pub writes : rising t.writes ≡ true

-- the keys of the store and of all sets ascend
pub record HasRisingKeys (d : Document) : Type 0 where
  pub store : rising (names_of d.store) ≡ true
  pub log : AllByRecursion HasRisingSets d.log

-- an exact text whose keys ascend
pub record IsTidyText (text : List ℕ) : Type 0 where
  pub document : Document
  pub sound : IsDocument document
  pub rises : HasRisingKeys document
  pub prints : text ≡ print_doc document
