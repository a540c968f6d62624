-- What the program reads, answers and refuses.
use Rattle.std.specs.Prelude.{◌≡◌, ◌⊎◌, ℕ, List, Option, None}
use Rattle.std.specs.Io.KnownBytes.{Appends}
use Rattle.bohm_types.specs.Document.{Document}
use Rattle.bohm_types.specs.Procedure.{Procedure}
use Rattle.bohm_types.specs.Sound.{IsDocument}
use Rattle.bohm_text.specs.Print.{print_doc}
use Rattle.bohm_text.specs.ProcedureText.{IsProcedure, print_procedure}
use Rattle.bohm_txn.specs.Faulty.{WellFormed}
use Rattle.bohm_procedures.specs.Accepting.{IsAccepted}
use Rattle.bohm_answer.specs.Bytes.{ReadsAll, Sends}
use Rattle.bohm_answer.specs.Refusing.{IsBeforeWriting}
use Rattle.bohm_answer.specs.declared.fault.RunFault.TheVariants.{Write}
use Rattle.bohm_report.specs.Procedures.{RefusesLogOrProcedure}
use Rattle.bohm_explain.specs.Aborts.{aborts_of}
use Rattle.bohm_explain.specs.Asked.{Asked}
use Rattle.bohm_explain.specs.Costs.{costs_text}
use Rattle.bohm_explain.specs.Printed.{IsAnswerTo, LacksPart}
use Rattle.bohm_explain_cli.specs.declared.arguments.Wish.{Wish}
use Rattle.bohm_explain_cli.specs.declared.arguments.Wish.TheVariants.{Figures, Aborts}
use Rattle.bohm_explain_cli.specs.declared.fault.ExplainFault.{ExplainFault}
use Rattle.bohm_explain_cli.specs.declared.fault.ExplainFault.TheVariants.{Run, NoPart}

-- the text that is wished for of a document
abbrev pub IsTextFor : Wish → Document → List ℕ → Type 0
IsTextFor (Figures asked) document printed = IsAnswerTo asked document.log printed
IsTextFor Aborts document printed = printed ≡ aborts_of document

-- the document has no such text
abbrev pub LacksText : Wish → Document → Type 0
LacksText (Figures asked) document = LacksPart asked document.log
LacksText Aborts document = ⊥

-- the text is that of a well-formed document with this property
pub record IsLog (P : Document → Type 0) (text : List ℕ) : Type 0 where
  pub document : Document
  pub sound : IsDocument document
  pub well_formed : WellFormed document
  pub prints : print_doc document ≡ text
  pub is : P document

-- the text is that of an accepted procedure, figures are wished for, and these are what its calls cost
pub record TellsCosts (wish : Wish) (text printed : List ℕ) : Type 0 where
  pub asked : Asked
  pub figures : wish ≡ Figures asked
  pub procedure : Procedure
  pub sound : IsProcedure procedure
  pub accepted : IsAccepted procedure
  pub prints : print_procedure procedure ≡ text
  pub says : printed ≡ costs_text asked procedure

-- what is printed about a text
abbrev pub IsPrintedFor : Wish → List ℕ → List ℕ → Type 0
IsPrintedFor wish text printed = IsLog (λ document. IsTextFor wish document printed) text ⊎ TellsCosts wish text printed

-- a text was read to the reader's end, and only what is wished for was written
pub record Explains (wish : Wish) (unread unread' written written' : Option (List ℕ)) : Type 0 where
  pub text : List ℕ
  pub read : ReadsAll unread unread' text
  pub printed : List ℕ
  pub answers : IsPrintedFor wish text printed
  pub wrote : Appends written written' printed

-- a text was read to the reader's end, and the first bytes of what is wished for were written
pub record StopsExplaining (wish : Wish) (unread unread' written written' : Option (List ℕ)) (sent : ℕ) : Type 0 where
  pub text : List ℕ
  pub read : ReadsAll unread unread' text
  pub printed : List ℕ
  pub answers : IsPrintedFor wish text printed
  pub wrote : Sends written written' printed sent

-- a log was read to the reader's end that lacks the part that was to be drawn
pub record ReadsLacking (wish : Wish) (unread unread' : Option (List ℕ)) : Type 0 where
  pub text : List ℕ
  pub read : ReadsAll unread unread' text
  pub lacks : IsLog (LacksText wish) text

-- what each refusal means: that the log lacks the part, or else, before writing, what it means of a run with any settings or of a procedure
abbrev pub RefusesText : Wish → Option (List ℕ) → Option (List ℕ) → Option (List ℕ) → Option (List ℕ) → ExplainFault → Type 0
RefusesText wish unread unread' written written' NoPart = ReadsLacking wish unread unread'
RefusesText wish unread unread' written written' (Run (Write sent)) = StopsExplaining wish unread unread' written written' sent
RefusesText wish unread unread' written written' (Run fault) = RefusesLogOrProcedure unread unread' fault

-- a refusal before writing
abbrev pub IsEarly : ExplainFault → Type 0
IsEarly NoPart = Unit {0}
IsEarly (Run fault) = IsBeforeWriting fault
