-- Why a text is refused.
use Rattle.std.specs.Prelude.{◌≡◌, ℕ, List, take}
use Rattle.bohm_types.specs.Document.{Document}
use Rattle.bohm_types.specs.Sound.{IsDocument}
use Rattle.bohm_text.specs.Cut.{whole_lines}
use Rattle.bohm_text.specs.Faults.{IsFirstBadLine, IsShort}
use Rattle.bohm_text.specs.Print.{print_doc}
use Rattle.bohm_text.specs.declared.fault.TextFault.TheVariants as texts
use Rattle.bohm_txn.specs.declared.fault.CheckFault.{CheckFault}
use Rattle.bohm_txn.specs.Faulty.{IsFirstFault}
use Rattle.bohm_check.specs.All.{doc_told, most_told}
use Rattle.bohm_check.specs.Reports.{ReportsSome}
use Rattle.bohm_report.specs.declared.refusal.Refusal.{Refusal}
use Rattle.bohm_report.specs.declared.refusal.Refusal.TheVariants.{Text, Check, NoMemory}

-- a refusal of a text that isn't a document's: the fault that parsing it returns
abbrev pub RefusesText : List ℕ → Refusal → Type 0
RefusesText text (Text (texts.Line n)) = IsFirstBadLine (whole_lines text) n
RefusesText text (Text texts.Short) = IsShort text
RefusesText text (Text texts.NoMemory) = ⊥
RefusesText text (Check fault) = ⊥
RefusesText text NoMemory = Unit {0}

-- a refusal of a document: the fault that the check returns
abbrev pub RefusesDocument : Document → Refusal → Type 0
RefusesDocument d (Text fault) = ⊥
RefusesDocument d (Check fault) = IsFirstFault d fault
RefusesDocument d NoMemory = Unit {0}

-- the text is that of a document with this first fault
pub record IsFaulty (text : List ℕ) (fault : CheckFault) : Type 0 where
  pub document : Document
  pub sound : IsDocument document
  pub print : print_doc document ≡ text
  pub first : IsFirstFault document fault

abbrev pub Refuses : List ℕ → Refusal → Type 0
Refuses text (Text (texts.Line n)) = IsFirstBadLine (whole_lines text) n
Refuses text (Text texts.Short) = IsShort text
Refuses text (Text texts.NoMemory) = ⊥
Refuses text (Check fault) = IsFaulty text fault
Refuses text NoMemory = Unit {0}

-- the messages about the first faults of the text's document were added: for each its head, and words
pub record IsReported (text old new : List ℕ) : Type 0 where
  pub document : Document
  pub sound : IsDocument document
  pub print : print_doc document ≡ text
  pub some : ReportsSome (take most_told (doc_told document)) old new
