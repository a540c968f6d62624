-- The report on a document's faults: a head and words for each.
use Rattle.std.specs.Prelude.{◌≡◌, ℕ, ◌+◌, ◌==◌, List, [], ◌∷◌, ◌++◌, take, if◌then◌else◌, codes, decimal, None}
use Rattle.bohm_types.specs.Limits.{most_txns}
use Rattle.bohm_txn.specs.declared.fault.CheckFault.{CheckFault}
use Rattle.bohm_txn.specs.declared.fault.CheckKind.{CheckKind}
use Rattle.bohm_txn.specs.declared.fault.CheckKind.TheVariants.{Order, Unread, Unwritten, Local, Limit}
use Rattle.bohm_check.specs.declared.page.Page.{Page}
use Rattle.bohm_check.specs.declared.report.Head.{Head}
use Rattle.bohm_check.specs.declared.told.Told.{Told}

-- the page is the document's own text
pub record IsOwnText (page : Page) : Type 0 where
  pub log : page.procedure ≡ None
  pub exact : page.loose ≡ None

-- ---- heads

-- a log with too many transactions is told at the first one that is too many
abbrev pub numbered : CheckKind → ℕ → ℕ
numbered Order t = t
numbered Unread t = t
numbered Unwritten t = t
numbered Local t = t
numbered Limit t = if t == 0 then most_txns + 1 else t

abbrev pub head_at : Told → Head
head_at told = record { line = told.line; txn = numbered told.fault.kind told.fault.txn; stmt = told.fault.stmt }

abbrev pub counted_words : List ℕ → ℕ → List ℕ
counted_words word n = if n == 0 then [] else word ++ decimal n

-- `line 7, transaction 2, statement 3:`, with a newline
abbrev pub head_text : Head → List ℕ
head_text h = codes "line " ++ decimal h.line ++ counted_words (codes ", transaction ") h.txn ++ counted_words (codes ", statement ") h.stmt ++ codes ":\n"

-- ---- reports

-- a head was appended, and then words
pub record Adds (head : Head) (old new : List ℕ) : Type 0 where
  pub words : List ℕ
  pub is : new ≡ old ++ (head_text head ++ words)

-- for each fault its head was appended, and then words
abbrev pub Reports : List Told → List ℕ → List ℕ → Type 0
Reports [] old new = new ≡ old
Reports (told ∷ faults) old new = (mid : List ℕ) × Adds (head_at told) old mid × Reports faults mid new

-- so were the first ones of the faults
pub record ReportsSome (faults : List Told) (old new : List ℕ) : Type 0 where
  pub count : ℕ
  pub reports : Reports (take count faults) old new
