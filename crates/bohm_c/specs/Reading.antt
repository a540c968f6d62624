-- The document that a text is read as, and why a text is refused.
use Rattle.std.specs.Prelude.{◌≡◌, ℕ, ℤ, ◌<◌, ◌≤◌, List, [], length}
use Rattle.bohm_types.specs.Document.{Document}
use Rattle.bohm_types.specs.Sound.{IsDocument}
use Rattle.bohm_types.specs.declared.edition.Edition.TheVariants.{One}
use Rattle.bohm_txn.specs.Faulty.{WellFormed, IsFirstFault}
use Rattle.bohm_txn.specs.declared.fault.CheckFault.{CheckFault}
use Rattle.bohm_text.specs.Cut.{whole_lines}
use Rattle.bohm_text.specs.Faults.{IsFirstBadLine, IsShort}
use Rattle.bohm_text.specs.Print.{print_doc}
use Rattle.bohm_text.specs.declared.fault.TextFault.TheVariants as texts
use Rattle.bohm_answer.specs.FaultLine.{fault_line}
use Rattle.bohm_answer.specs.declared.fault.RunFault.{RunFault}
use Rattle.bohm_answer.specs.declared.fault.RunFault.TheVariants.{Read, TooLong, Text, Check, Trimmed, Future, NoMemory, Write}
use Rattle.bohm_types.specs.Limits.{longest_text}

-- the text is that of this well-formed document, and not too long
pub record IsRead (text : List ℕ) (document : Document) : Type 0 where
  pub short : length text ≤ longest_text
  pub sound : IsDocument document
  pub well_formed : WellFormed document
  pub printed : print_doc document ≡ text

-- the text is that of a document with this first fault, and not too long
pub record IsFaulty (text : List ℕ) (fault : CheckFault) : Type 0 where
  pub short : length text ≤ longest_text
  pub document : Document
  pub sound : IsDocument document
  pub printed : print_doc document ≡ text
  pub first : IsFirstFault document fault

-- the text has this fault
abbrev pub HasFault : List ℕ → RunFault → Type 0
HasFault text Read = ⊥
HasFault text TooLong = longest_text < length text
HasFault text (Text (texts.Line n)) = (length text ≤ longest_text) × IsFirstBadLine (whole_lines text) n
HasFault text (Text texts.Short) = (length text ≤ longest_text) × IsShort text
HasFault text (Text texts.NoMemory) = ⊥
HasFault text (Check fault) = IsFaulty text fault
HasFault text Trimmed = ⊥
HasFault text Future = ⊥
HasFault text NoMemory = ⊥
HasFault text (Write sent) = ⊥

-- why a text isn't read: an allocation failed, or the text has this fault
abbrev pub IsRefused : List ℕ → RunFault → Type 0
IsRefused text Read = ⊥
IsRefused text TooLong = HasFault text TooLong
IsRefused text (Text fault) = HasFault text (Text fault)
IsRefused text (Check fault) = HasFault text (Check fault)
IsRefused text Trimmed = ⊥
IsRefused text Future = ⊥
IsRefused text NoMemory = Unit {0}
IsRefused text (Write sent) = ⊥

-- these bytes are the line that reports a fault of the text
pub record IsRefusal (text line : List ℕ) : Type 0 where
  pub fault : RunFault
  pub faulty : HasFault text fault
  pub says : line ≡ fault_line fault

-- the document with this store and no transactions
abbrev pub snapshot_of : List (List ℕ × ℤ) → Document
snapshot_of store = record { edition = One; store = store; log = [] }
