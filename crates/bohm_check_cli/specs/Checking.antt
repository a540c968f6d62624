-- What the program reads, writes and refuses.
use Rattle.std.specs.Prelude.{◌≡◌, ◌⊎◌, ℕ, List, length, count_by, Option}
use Rattle.std.specs.Io.KnownBytes.{Appends}
use Rattle.bohm_types.specs.Document.{Document}
use Rattle.bohm_types.specs.Procedure.{Procedure}
use Rattle.bohm_types.specs.Sound.{IsDocument}
use Rattle.bohm_text.specs.Print.{print_doc}
use Rattle.bohm_text.specs.ProcedureText.{IsProcedure, print_procedure}
use Rattle.bohm_txn.specs.Faulty.{WellFormed}
use Rattle.bohm_txn.specs.Sure.{is_sure}
use Rattle.bohm_procedures.specs.Accepting.{IsAccepted}
use Rattle.bohm_answer.specs.Bytes.{ReadsAll, Sends}
use Rattle.bohm_answer.specs.declared.fault.RunFault.{RunFault}
use Rattle.bohm_answer.specs.declared.fault.RunFault.TheVariants.{Check, Write}
use Rattle.bohm_txn.specs.declared.fault.CheckFault.{CheckFault}
use Rattle.bohm_report.specs.Procedures.{RefusesLogOrProcedure, RefusesProcedure}
use Rattle.bohm_report.specs.Refusals.{IsReported}
use Rattle.bohm_check.specs.Distinct.{CountsKeys}
use Rattle.bohm_check.specs.SummaryLine.{summary_line, procedure_line}
use Rattle.bohm_check.specs.declared.summary.Summary.{Summary}
use Rattle.bohm_check.specs.declared.procedure_report.ProcedureSummary.{ProcedureSummary}

-- ---- good texts

-- the text of a well-formed document, and its summary line
pub record IsGoodLog (text line : List ℕ) : Type 0 where
  pub document : Document
  pub sound : IsDocument document
  pub well_formed : WellFormed document
  pub prints : print_doc document ≡ text
  pub summary : Summary
  pub edition : summary.edition ≡ document.edition
  pub keys : summary.keys ≡ length document.store
  pub transactions : summary.transactions ≡ length document.log
  pub distinct : CountsKeys document summary.distinct
  pub sure : summary.sure ≡ count_by is_sure document.log
  pub is : line ≡ summary_line summary

-- the text of an accepted procedure, and its summary line; this says nothing about `statements`
pub record IsGoodProcedure (text line : List ℕ) : Type 0 where
  pub procedure : Procedure
  pub sound : IsProcedure procedure
  pub accepted : IsAccepted procedure
  pub prints : print_procedure procedure ≡ text
  pub summary : ProcedureSummary
  pub edition : summary.edition ≡ procedure.edition
  pub keys : summary.keys ≡ length procedure.keys
  pub values : summary.values ≡ length procedure.values
  pub is : line ≡ procedure_line summary

-- the text is a procedure's
pub record IsProcedureText (text : List ℕ) : Type 0 where
  pub procedure : Procedure
  pub sound : IsProcedure procedure
  pub prints : print_procedure procedure ≡ text

abbrev pub IsGood : List ℕ → List ℕ → Type 0
IsGood text line = IsGoodLog text line ⊎ IsGoodProcedure text line

-- a good text was read to the reader's end, and only its summary line was written
pub record Tells (unread unread' written written' : Option (List ℕ)) : Type 0 where
  pub text : List ℕ
  pub read : ReadsAll unread unread' text
  pub line : List ℕ
  pub good : IsGood text line
  pub wrote : Appends written written' line

-- a good text was read to the reader's end, and the first bytes of its summary line were written
pub record StopsTelling (unread unread' written written' : Option (List ℕ)) (sent : ℕ) : Type 0 where
  pub text : List ℕ
  pub read : ReadsAll unread unread' text
  pub line : List ℕ
  pub good : IsGood text line
  pub wrote : Sends written written' line sent

-- a procedure was read to the reader's end
pub record ReadsProcedure (unread unread' : Option (List ℕ)) : Type 0 where
  pub text : List ℕ
  pub read : ReadsAll unread unread' text
  pub is : IsProcedureText text

-- ---- refusals

-- what each refusal means
abbrev pub RefusesToTell : Option (List ℕ) → Option (List ℕ) → Option (List ℕ) → Option (List ℕ) → RunFault → Type 0
RefusesToTell unread unread' written written' (Write sent) = StopsTelling unread unread' written written' sent
RefusesToTell unread unread' written written' fault = RefusesLogOrProcedure unread unread' fault

-- the messages about a log's first faults were added, or the text is refused as a procedure
abbrev pub IsToldOf : List ℕ → CheckFault → List ℕ → List ℕ → Type 0
IsToldOf text fault old new = IsReported text old new ⊎ RefusesProcedure text (Check fault)

-- all that was read is such a text
pub record TellsFaults (unread unread' : Option (List ℕ)) (fault : CheckFault) (old new : List ℕ) : Type 0 where
  pub text : List ℕ
  pub read : ReadsAll unread unread' text
  pub told : IsToldOf text fault old new
